-- What a match on `numbered` says of the number: in an arm of an origin it is that origin's, and in the others it is not. Assumes nothing.
use Rattle.std.proofs.Common.{◌≡◌, ℕ, zero, suc, ◌<◌, false, Some, None, eqb, slice_get, refl, arith}
use borrow.Author.Tests.{ne_eqb}
use Rattle.edges.specs.declared.Origin.{Origin}
use Rattle.edges.specs.declared.Origin.TheVariants.{Regular, Branch, Syscall}
use Rattle.edges.specs.Origins.{origins, origin_number}

pub number_of : (n : ℕ) (o : Origin) → slice_get origins n ≡ Some o → n ≡ origin_number o
number_of zero Regular e = refl
number_of zero Branch e = absurd cc
number_of zero Syscall e = absurd cc
number_of (suc zero) Regular e = absurd cc
number_of (suc zero) Branch e = refl
number_of (suc zero) Syscall e = absurd cc
number_of (suc (suc zero)) Regular e = absurd cc
number_of (suc (suc zero)) Branch e = absurd cc
number_of (suc (suc zero)) Syscall e = refl
number_of (suc (suc (suc n))) o e = absurd cc

distinct : (o p : Origin) → (o ≡ p → ⊥) → eqb (origin_number o) (origin_number p) ≡ false
distinct Regular Regular f = absurd (f refl)
distinct Regular Branch f = refl
distinct Regular Syscall f = refl
distinct Branch Regular f = refl
distinct Branch Branch f = absurd (f refl)
distinct Branch Syscall f = refl
distinct Syscall Regular f = refl
distinct Syscall Branch f = refl
distinct Syscall Syscall f = absurd (f refl)

pub other : (n : ℕ) (o p : Origin) → (o ≡ p → ⊥) → slice_get origins n ≡ Some o → eqb n (origin_number p) ≡ false
other n o p f e = rw (number_of n o e) (distinct o p f)

later : (n : ℕ) → slice_get origins n ≡ None → 2 < n
later zero e = absurd cc
later (suc zero) e = absurd cc
later (suc (suc zero)) e = absurd cc
later (suc (suc (suc n))) e = omega arith

pub none : (n : ℕ) (p : Origin) → slice_get origins n ≡ None → eqb n (origin_number p) ≡ false
none n Regular e = ne_eqb n 0 (λ h. omega (arith, later n e))
none n Branch e = ne_eqb n 1 (λ h. omega (arith, later n e))
none n Syscall e = ne_eqb n 2 (λ h. omega (arith, later n e))
