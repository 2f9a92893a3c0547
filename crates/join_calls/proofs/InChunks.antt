-- The records of all words, as chunks of the words give them, and a search through them. Assumes nothing.
use Rattle.std.proofs.Common.{◌≡◌, ℕ, zero, suc, ◌+◌, ◌*◌, ◌/◌, ◌<◌, ◌≤◌, Bool, true, false, cond, ◌||◌, List, [], ◌∷◌, ◌++◌, length, get_or, take, drop, Option, Some, None, refl, sym, ap, ◌∙◌, arith, length-append, length-drop, append_assoc, add-one}
use native.Mathlib.Nat.{suc-mul}
use denote.Param.Members.{Mut}
use denote.Ref.{Bor}
use Rattle.std.proofs.Math.ListN.{get_or-append}
use Rattle.std.proofs.Math.Nat.{add-div_left, div-eq_of_lt}
use Rattle.std.proofs.Math.Seq.{drop-append_seam, length-take-le}
use Rattle.std.proofs.lemmas.List.{drop-append-le, take-append-drop}
use Rattle.std.proofs.lemmas.Iterator.{YieldsList}
use Rattle.std.proofs.lemmas.Iterator.Search.{any_from_yields_List}
use Rattle.std.specs.Fn.{Called}
use Rattle.std.specs.Iterator.{AlwaysYields, ChecksAny}
use Rattle.std.specs.List.{find, list_any}
use Rattle.std.specs.Slice.Iter.{chunks_exact_rest, chunks_exact_size, chunks_exact_steps}
use Rattle.std.specs.declared.slice.ChunksExact.{ChunksExact}
use Rattle.btor2_list.specs.Records.{records_in, first_given}
use Rattle.edges.specs.Edges.{edge_stride, dispatch_stride}
use Rattle.list_check.specs.Lines.{any}
use Rattle.join.specs.Program.{Edge, Dispatch}
use Rattle.join.specs.Given.{edge_in, edges_in, dispatch_in, dispatches_in, flag_stride, flag_in, flags_in, no_flag, dynamic_count, dynamics_in}
use Rattle.join_calls.specs.Records.{all_edges, all_dispatches, all_flags}

-- ---- chunks of the words, and the records in them

module _ {A : Type 0} (stride : ℕ) (read : List ℕ → A) (front : (xs ys : List ℕ) → length xs ≡ stride → read (xs ++ ys) ≡ read xs) (some : 0 < stride) where
  abbrev Steps : ChunksExact ℕ → Option (Bor (List ℕ)) → ChunksExact ℕ → Type 0
  Steps = chunks_exact_steps

  abbrev all : List ℕ → List A
  all ws = records_in stride read (length ws / stride) ws

  pub chunk_next : (s t : ChunksExact ℕ) (x : Bor (List ℕ)) → chunks_exact_size s ≡ stride → Steps s (Some x) t → all (chunks_exact_rest s) ≡ read x.now ∷ all (chunks_exact_rest t)
  unfolding records_in
  chunk_next s t x e p =
      let rest = chunks_exact_rest t in
      let long : length x.now ≡ stride = p.1.1 ∙ e in
      let there : chunks_exact_rest s ≡ x.now ++ rest = p.1.0 in
      let count : length (x.now ++ rest) / stride ≡ suc (length rest / stride) = ap (λ n. n / stride) (length-append x.now rest ∙ ap (λ n. n + length rest) long) ∙ add-div_left (length rest) some ∙ add-one _ in
      let after : drop stride (x.now ++ rest) ≡ rest = rw (sym long) (drop-append_seam x.now rest) in
      rw (there, count, front x.now rest long, after)

  pub chunk_none : (s t : ChunksExact ℕ) → chunks_exact_size s ≡ stride → Steps s None t → all (chunks_exact_rest s) ≡ []
  unfolding records_in
  chunk_none s t e p =
      let few : length (chunks_exact_rest s) < stride = rw e at p.1.0 in
      rw (div-eq_of_lt few)

  gives : (xs : List A) (s : ChunksExact ℕ) → chunks_exact_size s ≡ stride → xs ≡ all (chunks_exact_rest s) → AlwaysYields chunks_exact_steps (λ (x : Bor (List ℕ)). read x.now) s xs
  gives [] s e is = λ x t p. absurd (cc (is, chunk_next s t x e p))
  gives (a ∷ more) s e is = (
    (λ t p. absurd (cc (is, chunk_none s t e p))),
    λ x t p. let both : a ∷ more ≡ read x.now ∷ all (chunks_exact_rest t) = is ∙ chunk_next s t x e p in (cc, gives more t (p.0 ∙ e) cc),
  )

  yields : {s : ChunksExact ℕ} {ws : List ℕ} → chunks_exact_size s ≡ stride → chunks_exact_rest s ≡ ws → YieldsList chunks_exact_steps (λ (x : Bor (List ℕ)). read x.now) s (all ws)
  yields {s} {ws} e f = record { runs = gives (all ws) s e (ap all (sym f)) }

  -- words after the records do not matter
  records_front : (n : ℕ) (xs ys : List ℕ) → n * stride ≤ length xs → records_in stride read n (xs ++ ys) ≡ records_in stride read n xs
  unfolding records_in
  records_front zero xs ys h = refl
  records_front (suc n) xs ys h =
      let one : stride + n * stride ≤ length xs = omega (arith, suc-mul n stride) in
      let long : length (take stride xs) ≡ stride = length-take-le stride xs (omega arith) in
      let whole : xs ++ ys ≡ take stride xs ++ (drop stride xs ++ ys) = ap (λ (ws : List ℕ). ws ++ ys) (sym (take-append-drop stride xs)) ∙ rw append_assoc in
      let here : read (xs ++ ys) ≡ read xs =
      ap read whole ∙ front (take stride xs) (drop stride xs ++ ys) long ∙ sym (front (take stride xs) (drop stride xs) long) ∙ ap read (take-append-drop stride xs) in
      rw (here, drop-append-le stride xs ys (omega arith)) (ap (λ (rs : List A). read xs ∷ rs) (records_front n (drop stride xs) ys (omega (arith, length-drop stride xs))))

  taken : (n : ℕ) (ws : List ℕ) → n * stride ≤ length ws → records_in stride read n (take (n * stride) ws) ≡ records_in stride read n ws
  taken n ws h =
      let long : length (take (n * stride) ws) ≡ n * stride = length-take-le (n * stride) ws h in
      sym (records_front n (take (n * stride) ws) (drop (n * stride) ws) (omega arith)) ∙ ap (λ (vs : List ℕ). records_in stride read n vs) (take-append-drop (n * stride) ws)

pub edge_front : (xs ys : List ℕ) → length xs ≡ edge_stride → edge_in (xs ++ ys) ≡ edge_in xs
edge_front xs ys h = rw (get_or-append xs ys 0 1 (omega arith), get_or-append xs ys 0 2 (omega arith), get_or-append xs ys 0 3 (omega arith))

pub dispatch_front : (xs ys : List ℕ) → length xs ≡ dispatch_stride → dispatch_in (xs ++ ys) ≡ dispatch_in xs
dispatch_front xs ys h = rw (get_or-append xs ys 0 0 (omega arith), get_or-append xs ys 0 1 (omega arith))

pub flag_front : (xs ys : List ℕ) → length xs ≡ flag_stride → flag_in (xs ++ ys) ≡ flag_in xs
flag_front xs ys h = rw (get_or-append xs ys 0 0 (omega arith), get_or-append xs ys 0 1 (omega arith))

module _ {s : ChunksExact ℕ} {ws : List ℕ} where
  pub edges_yield : chunks_exact_size s ≡ edge_stride → chunks_exact_rest s ≡ ws → YieldsList chunks_exact_steps (λ (x : Bor (List ℕ)). edge_in x.now) s (all_edges ws)
  edges_yield = yields edge_stride edge_in edge_front (omega arith)

  pub dispatches_yield : chunks_exact_size s ≡ dispatch_stride → chunks_exact_rest s ≡ ws → YieldsList chunks_exact_steps (λ (x : Bor (List ℕ)). dispatch_in x.now) s (all_dispatches ws)
  dispatches_yield = yields dispatch_stride dispatch_in dispatch_front (omega arith)

  pub flags_yield : chunks_exact_size s ≡ flag_stride → chunks_exact_rest s ≡ ws → YieldsList chunks_exact_steps (λ (x : Bor (List ℕ)). flag_in x.now) s (all_flags ws)
  flags_yield = yields flag_stride flag_in flag_front (omega arith)

-- what one more chunk takes, and none

pub edges_next : (s t : ChunksExact ℕ) (x : Bor (List ℕ)) (e : Edge ℕ) → e ≡ edge_in x.now → chunks_exact_size s ≡ edge_stride → chunks_exact_steps s (Some x) t
    → all_edges (chunks_exact_rest s) ≡ e ∷ all_edges (chunks_exact_rest t)
edges_next s t x e is size p = chunk_next edge_stride edge_in edge_front (omega arith) s t x size p ∙ ap (λ (d : Edge ℕ). d ∷ all_edges (chunks_exact_rest t)) (sym is)

pub edges_none : (s t : ChunksExact ℕ) → chunks_exact_size s ≡ edge_stride → chunks_exact_steps s None t → all_edges (chunks_exact_rest s) ≡ []
edges_none = chunk_none edge_stride edge_in edge_front (omega arith)

pub dispatches_next : (s t : ChunksExact ℕ) (x : Bor (List ℕ)) (d : Dispatch ℕ) → d ≡ dispatch_in x.now → chunks_exact_size s ≡ dispatch_stride → chunks_exact_steps s (Some x) t
    → all_dispatches (chunks_exact_rest s) ≡ d ∷ all_dispatches (chunks_exact_rest t)
dispatches_next s t x d is size p = chunk_next dispatch_stride dispatch_in dispatch_front (omega arith) s t x size p ∙ ap (λ (e : Dispatch ℕ). e ∷ all_dispatches (chunks_exact_rest t)) (sym is)

pub dispatches_none : (s t : ChunksExact ℕ) → chunks_exact_size s ≡ dispatch_stride → chunks_exact_steps s None t → all_dispatches (chunks_exact_rest s) ≡ []
dispatches_none = chunk_none dispatch_stride dispatch_in dispatch_front (omega arith)

-- the records at the front of the words

module _ (n : ℕ) (ws : List ℕ) where
  pub edges_taken : n * edge_stride ≤ length ws → edges_in n (take (n * edge_stride) ws) ≡ edges_in n ws
  edges_taken = taken edge_stride edge_in edge_front (omega arith) n ws

  pub dispatches_taken : n * dispatch_stride ≤ length ws → dispatches_in n (take (n * dispatch_stride) ws) ≡ dispatches_in n ws
  dispatches_taken = taken dispatch_stride dispatch_in dispatch_front (omega arith) n ws

  pub flags_taken : n * flag_stride ≤ length ws → flags_in n (take (n * flag_stride) ws) ≡ flags_in n ws
  flags_taken = taken flag_stride flag_in flag_front (omega arith) n ws

-- ---- a search

any_is : {A : Type 0} (test : A → Bool) (xs : List A) → list_any test xs ≡ any test xs
any_is test [] = refl
any_is test (x ∷ xs) = ap (λ b. test x || b) (any_is test xs)

pub any_from : {S A B F : Type 0} {steps : S → Option A → S → Type 0} {v : A → B} {g : Mut F (A × Unit {0}) Bool} {s : S} {all : List B} (test : B → Bool) (u : S) (f : F) (r : Bool)
    → ChecksAny steps g s f r u → YieldsList steps v s all → ((x : A) (b : Bool) (q : F) → Called g f (x, tt) b q → (q ≡ f) × (b ≡ test (v x))) → r ≡ any test all
any_from {all = all} test u f r ran y k = any_from_yields_List test u f r ran y k ∙ any_is test all

module _ {A : Type 0} (none : ℕ) (test : A → Bool) (give : A → ℕ) where
  found_here : (b : Bool) (x y : A) (rest : Option A) (n : ℕ) → (Some x ≡ rest → give x ≡ n) → Some x ≡ cond b (Some y) rest → give x ≡ cond b (give y) n
  found_here true x y rest n on e = let same : x ≡ y = cc in ap give same
  found_here false x y rest n on e = on e

  pub first_found : (xs : List A) (x : A) → Some x ≡ find test xs → give x ≡ first_given none test give xs
  unfolding first_given
  first_found [] x e = absurd cc
  first_found (y ∷ ys) x e = found_here (test y) x y (find test ys) _ (first_found ys x) e

  none_here : (b : Bool) (y : A) (rest : Option A) (n : ℕ) → (None ≡ rest → none ≡ n) → None ≡ cond b (Some y) rest → none ≡ cond b (give y) n
  none_here true y rest n on e = absurd cc
  none_here false y rest n on e = on e

  pub first_none : (xs : List A) → None ≡ find test xs → none ≡ first_given none test give xs
  unfolding first_given
  first_none [] e = refl
  first_none (y ∷ ys) e = none_here (test y) y (find test ys) _ (first_none ys) e

-- ---- the dynamic flags are the words themselves

words_are : (n : ℕ) (ws : List ℕ) → length ws ≡ n → records_in 1 (λ rest. get_or rest 0 no_flag) n ws ≡ ws
unfolding records_in
words_are zero [] h = refl
words_are zero (w ∷ ws) h = absurd (omega arith)
words_are (suc n) [] h = absurd (omega arith)
words_are (suc n) (w ∷ ws) h = ap (λ (r : List ℕ). w ∷ r) (words_are n ws (omega arith))

pub dynamics_are : (ws : List ℕ) → length ws ≡ dynamic_count → dynamics_in ws ≡ ws
dynamics_are ws h = words_are dynamic_count ws h
