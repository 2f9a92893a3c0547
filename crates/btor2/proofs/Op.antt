-- What a line says of itself does not depend on its operands. Assumes nothing.
use mathlib.Core.Path.{◌≡◌, refl}
use Rattle.btor2.specs.Op.{Op, const, read, write, bin, uext, ite, eq, and, or, not, state, state_init, next, input, bad, unknown, map_op, carried}
use Rattle.btor2.specs.SortRule.{is_state_op, mark_of}

pub map_op-map_op : {A B C : Type 0} (g : B → C) (f : A → B) (o : Op A) → map_op g (map_op f o) ≡ map_op (λ a. g (f a)) o
unfolding map_op
map_op-map_op g f (const s n) = refl
map_op-map_op g f (read m a) = refl
map_op-map_op g f (write m a v) = refl
map_op-map_op g f (bin o a b) = refl
map_op-map_op g f (uext s a) = refl
map_op-map_op g f (ite s c a b) = refl
map_op-map_op g f (eq a b) = refl
map_op-map_op g f (and s a b) = refl
map_op-map_op g f (or s a b) = refl
map_op-map_op g f (not s a) = refl
map_op-map_op g f (state s m) = refl
map_op-map_op g f (state_init s a m) = refl
map_op-map_op g f (next s a b) = refl
map_op-map_op g f (input s m) = refl
map_op-map_op g f (bad a m) = refl
map_op-map_op g f unknown = refl

pub mark_map : {A B : Type 0} (f : A → B) (o : Op A) → mark_of (map_op f o) ≡ mark_of o
unfolding map_op carried is_state_op
mark_map f (const s n) = refl
mark_map f (read m a) = refl
mark_map f (write m a v) = refl
mark_map f (bin o a b) = refl
mark_map f (uext s a) = refl
mark_map f (ite s c a b) = refl
mark_map f (eq a b) = refl
mark_map f (and s a b) = refl
mark_map f (or s a b) = refl
mark_map f (not s a) = refl
mark_map f (state s m) = refl
mark_map f (state_init s a m) = refl
mark_map f (next s a b) = refl
mark_map f (input s m) = refl
mark_map f (bad a m) = refl
mark_map f unknown = refl
