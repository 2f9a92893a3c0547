-- The append with the sequentials: a Next's place is listed there too (unicorn's `new_next`).
use Rattle.std.specs.Prelude.{ℕ, ◌+◌, ◌≡◌, Bool, true, false, cond, List, [], ◌∷◌}
use Rattle.btor2.specs.Op as O
use Rattle.btor2.specs.Op.{Op}
use Rattle.btor2_list.specs.Records.{put_record}
use Rattle.builder.specs.Prog.{Prog, Run, ran, exec}
use Rattle.builder.specs.Append.{Store, append}

abbrev pub is_next : {A : Type 0} → Op A → Bool
is_next (O.const s n) = false
is_next (O.read m a) = false
is_next (O.write m a v) = false
is_next (O.bin o a b) = false
is_next (O.uext s a) = false
is_next (O.ite s c a b) = false
is_next (O.eq a b) = false
is_next (O.and s a b) = false
is_next (O.or s a b) = false
is_next (O.not s a) = false
is_next (O.state s m) = false
is_next (O.state_init s a m) = false
is_next (O.next s a b) = true
is_next (O.input s m) = false
is_next (O.bad a m) = false
is_next O.unknown = false

-- the lent words and the tally, the lent sequentials and how many there are
pub record Listed : Type 0 where
  pub store : Store
  pub sequentials : List ℕ
  pub count : ℕ

abbrev pub listed : Store → List ℕ → ℕ → Listed
listed st seq n = record { store = st; sequentials = seq; count = n }

unfoldable pub append_listed : Listed → Op ℕ → Run Listed ℕ
append_listed s o =
    let r = append s.store o in
    ran
    (cond (is_next o) (listed r.state (put_record 1 s.sequentials s.count (r.value ∷ [])) (s.count + 1))
    (listed r.state s.sequentials s.count))
    r.value

-- the contract: the program p, run from the words ws, the tally t and the sequentials, leaves these and gives x
pub record Lists {X : Type 0} (s : Listed) (p : Prog ℕ X) (s' : Listed) (x : X) : Type 0 where
  pub is : ran s' x ≡ exec append_listed s p
