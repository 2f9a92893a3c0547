-- A run that lists the sequentials: lines that are no Next leave them. Assumes nothing.
use Prim.Native.Nat.{ℕ, ◌+◌}
use mathlib.Core.Path.{◌≡◌, refl, sym, ap, ◌∙◌}
use mathlib.Core.Bool.{Bool, true, false, cond}
use mathlib.Core.List.{List, [], ◌∷◌}
use lib.ListN.{length}
use Rattle.btor2.specs.Op.{Op}
use Rattle.btor2.specs.declared.NodeType.{NodeType}
use Rattle.btor2_list.specs.Records.{put_record}
use Rattle.builder.specs.Prog.{Prog, done, line, ◌>>=◌, Run, ran, exec}
use Rattle.builder.specs.OneLine.{new_next}
use Rattle.builder.proofs.Exec.{chain}
use Rattle.builder.specs.declared.Tally.{Tally}
use Rattle.builder.specs.Append.{Store, at, append}
use Rattle.builder.specs.Gives.{Gives}
use Rattle.builder.proofs.Gives.{kept}
use Rattle.join.specs.ControlFlow.{Bits, control_flow_from_any, control_flow_from_regular, control_flow_from_branch, control_flow_from_jalr}
use Rattle.join.specs.Listed.{is_next, Listed, listed, append_listed, Lists}

-- a program without a Next
pub data Quiet {X : Type 0} : Prog ℕ X → Type 0 where
  none : {x : X} → Quiet (done x)
  one : {o : Op ℕ} {k : ℕ → Prog ℕ X} → is_next o ≡ false → ((a : ℕ) → Quiet (k a)) → Quiet (line o k)

pub on : {X Y : Type 0} {s s1 s2 : Listed} {p : Prog ℕ X} {x : X} {y : Y} (f : X → Prog ℕ Y) → Lists s p s1 x → Lists s1 (f x) s2 y → Lists s (p >>= f) s2 y
on {s = s} {p = p} f a b = record { is = chain append_listed s p f a.is b.is }

-- the rest of a program after what is done
pub rest : {X Y : Type 0} {s s1 : Listed} {p : Prog ℕ X} {x : X} (f : X → Prog ℕ Y) → Lists s p s1 x → exec append_listed s1 (f x) ≡ exec append_listed s (p >>= f)
rest {s = s} {p = p} f a = chain append_listed s p f a.is refl

quiet_exec : {X : Type 0} {p : Prog ℕ X} → Quiet p → (st : Store) (seq : List ℕ) (n : ℕ)
    → exec append_listed (listed st seq n) p ≡ ran (listed (exec append st p).state seq n) (exec append st p).value
unfolding append_listed
quiet_exec none st seq n = refl
quiet_exec (one {o = o} {k = k} e q) st seq n = rw e (quiet_exec (q (append st o).value) (append st o).state seq n)

pub lists : {X : Type 0} {ws ws' seq : List ℕ} {t t' : Tally} {n : ℕ} {p : Prog ℕ X} {x : X} → Quiet p → Gives ws t p ws' t' x → Lists (listed (at ws t) seq n) p (listed (at ws' t') seq n) x
lists {X} {ws} {ws'} {seq} {t} {t'} {n} {p} q g = record { is = ap (λ (r : Run Store X). ran (listed r.state seq n) r.value) g.is ∙ sym (quiet_exec q (at ws t) seq n) }

pub lists_next : {ws ws' seq : List ℕ} {t t' : Tally} {n : ℕ} {sort : NodeType} {s v x : ℕ} → Gives ws t (new_next sort s v) ws' t' x
    → Lists (listed (at ws t) seq n) (new_next sort s v) (listed (at ws' t') (put_record 1 seq n (x ∷ [])) (n + 1)) x
unfolding append_listed
lists_next {seq = seq} {n = n} g = record { is = ap (λ (r : Run Store ℕ). ran (listed r.state (put_record 1 seq n (r.value ∷ [])) (n + 1)) r.value) g.is }

pub quiet_bind : {X Y : Type 0} {p : Prog ℕ X} {f : X → Prog ℕ Y} → Quiet p → ((x : X) → Quiet (f x)) → Quiet (p >>= f)
unfolding ◌>>=◌
quiet_bind (none {x}) h = h x
quiet_bind (one e q) h = one e (λ a. quiet_bind (q a) h)

pub quiet_line : {o : Op ℕ} → is_next o ≡ false → Quiet (line o done)
quiet_line e = one e (λ a. none)

pub quiet_any : (b : Bits ℕ) (activate flow : ℕ) → Quiet (control_flow_from_any b activate flow)
unfolding control_flow_from_any
quiet_any b activate flow = go (b.is_zero flow)
  where
    go : (t : Bool) → Quiet (cond t (done activate) (Rattle.builder.specs.OneLine.new_ite Rattle.btor2.specs.declared.NodeType.TheVariants.Bit activate b.one flow))
    go true = none
    go false = quiet_line refl

pub quiet_regular : (b : Bits ℕ) (flag flow : ℕ) → Quiet (control_flow_from_regular b flag flow)
unfolding control_flow_from_regular
quiet_regular b flag flow = quiet_any b flag flow

pub quiet_branch : (b : Bits ℕ) (flag condition flow : ℕ) → Quiet (control_flow_from_branch b flag condition flow)
unfolding control_flow_from_branch ◌>>=◌
quiet_branch b flag condition flow = one refl (λ a. quiet_any b a flow)

pub quiet_jalr : (b : Bits ℕ) (register dynamic pc flow : ℕ) → Quiet (control_flow_from_jalr b register dynamic pc flow)
unfolding control_flow_from_jalr ◌>>=◌
quiet_jalr b register dynamic pc flow = one refl (λ e. one refl (λ a. quiet_any b a flow))

-- ---- the list without the sequentials

abbrev Forgot : {X : Type 0} → Prog ℕ X → Listed → Type 0
Forgot p s = ran (exec append_listed s p).state.store (exec append_listed s p).value ≡ exec append s.store p

pick : {X : Type 0} (p : Prog ℕ X) (st : Store) (a b : List ℕ) (m n : ℕ) (t : Bool) → Forgot p (listed st a m) → Forgot p (listed st b n)
    → ran (exec append_listed (cond t (listed st a m) (listed st b n)) p).state.store (exec append_listed (cond t (listed st a m) (listed st b n)) p).value ≡ exec append st p
pick p st a b m n true h k = h
pick p st a b m n false h k = k

pub forgets : {X : Type 0} (p : Prog ℕ X) (s : Listed) → ran (exec append_listed s p).state.store (exec append_listed s p).value ≡ exec append s.store p
unfolding append_listed
forgets (done x) s = refl
forgets (line o k) s =
    let r = append s.store o in
    let a = put_record 1 s.sequentials s.count (r.value ∷ []) in
    pick (k r.value) r.state a s.sequentials (s.count + 1) s.count (is_next o)
    (forgets (k r.value) (listed r.state a (s.count + 1))) (forgets (k r.value) (listed r.state s.sequentials s.count))

pub gives : {X : Type 0} {s s' : Listed} {p : Prog ℕ X} {x : X} → Lists s p s' x → Gives s.store.words s.store.tally p s'.store.words s'.store.tally x
gives {X} {s} {s'} {p} l = record { is = ap (λ (r : Run Listed X). ran r.state.store r.value) l.is ∙ forgets p s }

pub list_kept : {X : Type 0} {s s' : Listed} {p : Prog ℕ X} {x : X} → Lists s p s' x → length s'.store.words ≡ length s.store.words
list_kept l = kept (gives l)
