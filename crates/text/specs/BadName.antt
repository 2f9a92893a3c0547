-- The name of the bad line at an address (unicorn's `format!("unimplemented-pc-{:x}", pc)`).
use Rattle.std.specs.Prelude.{ℕ, List, ◌++◌}
use Rattle.text.specs.Ascii.{ascii}
use Rattle.text.specs.Numeral.{hex_text}

unfoldable pub bad_name : ℕ → List ℕ
bad_name address = ascii "unimplemented-pc-" ++ hex_text address
