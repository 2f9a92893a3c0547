-- One step of a join: the new flow is 1 exactly where what activates is, or the old flow was. Assumes nothing.
use Prim.Native.Nat.{ℕ, ◌%◌, ◌<◌, ◌^◌}
use native.Mathlib.Omega.{arith}
use native.Mathlib.Nat.{mod-lt}
use lib.Pow.{pow_pos}
use mathlib.Core.Path.{◌≡◌, refl, sym, ◌∙◌, ap, ap₂, subst}
use mathlib.Core.Bool.{Bool, true, false, cond, ◌&&◌, ◌||◌, or-false}
use mathlib.Core.List.{List, [], ◌∷◌, ◌++◌, append_assoc, append-nil}
use borrow.Author.Tests.{eqb-true}
use lib.Dec.{eqb}
use lib.ListN.{length, length-append}
use Rattle.bitvec.specs.Smtlib as Smt
use Rattle.btor2.specs.declared.Name.{Name}
use Rattle.btor2.specs.declared.NodeType.TheVariants.{Bit as B1}
use Rattle.btor2.specs.Op.{Op, and, ite, eq, state_init, next}
use Rattle.btor2.specs.Value.{Value, Env, value}
use Rattle.btor2.proofs.Value.{value_kept}
use Rattle.builder.specs.Prog.{done, ◌>>=◌, Run}
use Rattle.builder.specs.OneLine.{new_ite}
use Rattle.join.specs.ControlFlow.{Bits, Kernel, control_flow_from_any, control_flow_from_regular, control_flow_from_branch, control_flow_from_ecall, control_flow_from_jalr}
use Rattle.join_laws.specs.Push.{pushed}
use Rattle.join_laws.specs.Active.{on}
use Rattle.join_laws.proofs.Sound.{Bit, KnownBits}
use Rattle.join_laws.proofs.Pushed.{longer, value_ite, value_and, value_eq, value_state, bit_kept, and_bits, comp_bit, comp_on}

module _ (env : Env) where
  -- from the list xs and the flow, a run has come to r; a: something was active
  pub record Stepped (xs : List (Op ℕ)) (flow : ℕ) (a : Bool) (r : Run (List (Op ℕ)) ℕ) : Type 0 where
    pub more : List (Op ℕ)
    pub extends : r.state ≡ xs ++ more
    pub place : r.value < length r.state
    pub is : on env r.state r.value ≡ (a || on env xs flow)

  pub given_kept : {xs : List (Op ℕ)} (zs : List (Op ℕ)) {b : Bits ℕ} → KnownBits env xs b → KnownBits env (xs ++ zs) b
  given_kept {xs} zs {b} g = record {
    zero = rw length-append (omega (arith, g.zero));
    one = rw length-append (omega (arith, g.one));
    is_zero = g.is_zero;
    zero_value = rw (value_kept env xs zs b.zero g.zero) g.zero_value;
    one_value = rw (value_kept env xs zs b.one g.one) g.one_value;
  }

  ite_on : (c : ℕ) (x y : Value) → x.num ≡ 1 → eqb (Smt.ite c x y).num 1 ≡ (eqb c 1 || eqb y.num 1)
  unfolding Smt.ite
  ite_on c x y e = go (eqb c 1)
    where
      go : (t : Bool) → eqb (elim t as (λ _. Value) [ true ↦ x | false ↦ y ]).num 1 ≡ (t || eqb y.num 1)
      go true = rw e
      go false = refl

  module _ (xs : List (Op ℕ)) (b : Bits ℕ) (g : KnownBits env xs b) where
    pub any : (activate flow : ℕ) → activate < length xs → flow < length xs → Stepped xs flow (on env xs activate) (pushed xs (control_flow_from_any b activate flow))
    unfolding control_flow_from_any
    any activate flow ha hf = go (b.is_zero flow) refl
      where
        off : b.is_zero flow ≡ true → on env xs flow ≡ false
        off e = rw (eqb-true flow b.zero (sym (g.is_zero flow) ∙ e), g.zero_value)

        go : (t : Bool) → b.is_zero flow ≡ t → Stepped xs flow (on env xs activate) (pushed xs (cond t (done activate) (new_ite B1 activate b.one flow)))
        go true e = record { more = []; extends = sym (append-nil xs); place = ha; is = sym (ap (λ t. on env xs activate || t) (off e) ∙ or-false _) }
        go false e = record {
          more = ite B1 activate b.one flow ∷ [];
          extends = refl;
          place = rw (longer xs (ite B1 activate b.one flow)) (omega arith);
          is =
              ap (λ (v : Value). eqb v.num 1) (value_ite env xs B1 activate b.one flow)
              ∙ ite_on (value env xs activate).num (value env xs b.one) (value env xs flow) g.one_value;
        }

  pub wider : (xs zs : List (Op ℕ)) {p : ℕ} → p < length xs → p < length (xs ++ zs)
  wider xs zs h = rw length-append (omega arith)

  -- a step after lines that leave the flow as it is
  pub after : {xs : List (Op ℕ)} (zs : List (Op ℕ)) {flow : ℕ} {a : Bool} {r : Run (List (Op ℕ)) ℕ} → flow < length xs → Stepped (xs ++ zs) flow a r → Stepped xs flow a r
  after {xs} zs {flow} {a} h s = record {
    more = zs ++ s.more;
    extends = s.extends ∙ append_assoc xs zs s.more;
    place = s.place;
    is = s.is ∙ ap (λ (v : Value). a || eqb v.num 1) (value_kept env xs zs flow h);
  }

  -- what activates, said in another way
  pub by : {xs : List (Op ℕ)} {flow : ℕ} {a a' : Bool} {r : Run (List (Op ℕ)) ℕ} → a ≡ a' → Stepped xs flow a r → Stepped xs flow a' r
  by {xs} {flow} {a} {a'} {r} e s = subst (λ t. Stepped xs flow t r) e s

  -- one step and the rest
  pub twice : {xs : List (Op ℕ)} {flow : ℕ} {a a' : Bool} {r q : Run (List (Op ℕ)) ℕ} → Stepped xs flow a r → Stepped r.state r.value a' q → Stepped xs flow (a || a') q
  twice {xs} {flow} {a} {a'} {r} {q} s t = record {
    more = s.more ++ t.more;
    extends = t.extends ∙ ap (λ l. l ++ t.more) s.extends ∙ append_assoc xs s.more t.more;
    place = t.place;
    is = t.is ∙ ap (λ c. a' || c) s.is ∙ swap a' a (on env xs flow);
  }
    where
      swap : (x y z : Bool) → (x || (y || z)) ≡ ((y || x) || z)
      swap true true z = refl
      swap true false z = refl
      swap false true z = refl
      swap false false z = refl

  module _ (xs : List (Op ℕ)) (b : Bits ℕ) (g : KnownBits env xs b) (flow : ℕ) (hf : flow < length xs) where
    pub regular : (flag : ℕ) → flag < length xs → Stepped xs flow (on env xs flag) (pushed xs (control_flow_from_regular b flag flow))
    unfolding control_flow_from_regular
    regular flag h = any xs b g flag flow h hf

    -- And of two bits, then any
    pub anded : (p q : ℕ) → Bit env xs p → Bit env xs q
        → Stepped xs flow (on env xs p && on env xs q) (pushed (xs ++ (and B1 p q ∷ [])) (control_flow_from_any b (length xs) flow))
    anded p q hp hq =
        after (and B1 p q ∷ []) hf
        (by (ap (λ n. eqb n 1) (value_and env xs B1 p q) ∙ and_bits (value env xs p).num (value env xs q).num hp.bound hq.bound)
        (any (xs ++ (and B1 p q ∷ [])) b (given_kept (and B1 p q ∷ []) g) (length xs) flow (rw (longer xs (and B1 p q)) (omega arith)) (rw (longer xs (and B1 p q)) (omega arith))))

    pub branched : (flag condition : ℕ) → Bit env xs flag → Bit env xs condition
        → Stepped xs flow (on env xs flag && on env xs condition) (pushed xs (control_flow_from_branch b flag condition flow))
    unfolding control_flow_from_branch ◌>>=◌
    branched flag condition hf hc = anded flag condition hf hc

  module _ (xs : List (Op ℕ)) (b : Bits ℕ) (g : KnownBits env xs b) (flow : ℕ) (hf : flow < length xs) where
    pub jumped : (register dynamic pc : ℕ) → Bit env xs dynamic
        → Stepped xs flow (on env xs dynamic && eqb (value env xs register).num (value env xs pc).num) (pushed xs (control_flow_from_jalr b register dynamic pc flow))
    unfolding control_flow_from_jalr ◌>>=◌
    jumped register dynamic pc hd =
        after zs hf
        (by (ap₂ (λ (v : Value) (t : Bool). eqb v.num 1 && t) (value_kept env xs zs dynamic hd.place) (ap (λ n. eqb n 1) (value_eq env xs register pc) ∙ comp_on (value env xs register).num (value env xs pc).num))
        (anded (xs ++ zs) b (given_kept zs g) flow (wider xs zs hf) dynamic (length xs) (bit_kept env xs zs hd)
        (record { place = there; bound = rw (value_eq env xs register pc) (comp_bit (value env xs register).num (value env xs pc).num) })))
      where
        zs : List (Op ℕ)
        zs = eq register pc ∷ []

        there : length xs < length (xs ++ zs)
        there = rw (longer xs (eq register pc)) (omega arith)

    -- the State's own value is any bit
    pub called : (k : Kernel ℕ) (flag : ℕ) (name : Name) → Bit env xs k.none
        → Stepped xs flow (eqb ((env (length xs)).num % 2 ^ 1) 1 && on env xs k.none) (pushed xs (control_flow_from_ecall b k flag name flow))
    unfolding control_flow_from_ecall ◌>>=◌
    called k flag name hk =
        after (s ∷ []) hf (after (i ∷ []) f1 (after (n ∷ []) f2
        (by (ap₂ (λ u (v : Value). eqb u 1 && eqb v.num 1) its (value_kept env x2 (n ∷ []) k.none k2.place ∙ value_kept env x1 (i ∷ []) k.none k1.place ∙ value_kept env xs (s ∷ []) k.none hk.place))
        (anded x3 b (given_kept (n ∷ []) (given_kept (i ∷ []) (given_kept (s ∷ []) g))) flow (wider x2 (n ∷ []) f2) (length xs) k.none
        (record { place = h3; bound = rw its (mod-lt _ (pow_pos 1)) }) (bit_kept env x2 (n ∷ []) k2)))))
      where
        s : Op ℕ
        s = state_init B1 b.zero name

        x1 : List (Op ℕ)
        x1 = xs ++ (s ∷ [])

        i : Op ℕ
        i = ite B1 (length xs) k.mode flag

        x2 : List (Op ℕ)
        x2 = x1 ++ (i ∷ [])

        n : Op ℕ
        n = next B1 (length xs) (length x1)

        x3 : List (Op ℕ)
        x3 = x2 ++ (n ∷ [])

        f1 : flow < length x1
        f1 = wider xs (s ∷ []) hf

        f2 : flow < length x2
        f2 = wider x1 (i ∷ []) f1

        k1 : Bit env x1 k.none
        k1 = bit_kept env xs (s ∷ []) hk

        k2 : Bit env x2 k.none
        k2 = bit_kept env x1 (i ∷ []) k1

        h1 : length xs < length x1
        h1 = rw (longer xs s) (omega arith)

        h2 : length xs < length x2
        h2 = wider x1 (i ∷ []) h1

        h3 : length xs < length x3
        h3 = wider x2 (n ∷ []) h2

        its : (value env x3 (length xs)).num ≡ (env (length xs)).num % 2 ^ 1
        its = ap (λ (v : Value). v.num) (value_kept env x2 (n ∷ []) (length xs) h2 ∙ value_kept env x1 (i ∷ []) (length xs) h1) ∙ value_state env xs b.zero name
