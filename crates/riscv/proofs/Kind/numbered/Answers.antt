-- Each kind stands at its number. Assumes nothing.
use Rattle.std.proofs.Common.{ℕ, ◌≡◌, Option, Some, None, Bor, refl, sym, length, slice_get}
use Rattle.std.specs.Option.{option_copied}
use Rattle.std.specs.Slice.{IsItemAt}
use Rattle.std.proofs.lemmas.Option.{slice_get_past, slice_get_read}
use Rattle.riscv.specs.declared.Kind.{Kind}
use Rattle.riscv.specs.Kind.{kinds}
use Rattle.riscv.proofs.Kind.numbered.Goals as goal

copied : (n : ℕ) (r : Option (Bor Kind)) → IsItemAt kinds n r → option_copied r ≡ slice_get kinds n
copied n None h = sym (slice_get_past kinds n h.3)
copied n (Some x) h = sym (slice_get_read kinds (length kinds) n x.now refl h.3.0 h.1)

pub returns : goal.returns
returns c = rw c.copied.ensures (copied c.args.number c.get.result c.get.ensures.lookup)
