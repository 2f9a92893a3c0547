-- The name of a syscall edge's State (unicorn's `format!("kernel-mode-pc-flag-{}", edge.from_address)`), in our area.
use Rattle.std.specs.Prelude.{ℕ, List, ◌++◌, length}
use Rattle.btor2.specs.declared.Name.{Name}
use Rattle.btor2_list.specs.NameBytes.{our_area}
use Rattle.text.specs.Ascii.{ascii}
use Rattle.text.specs.Numeral.{decimal_text}

unfoldable pub flag_name : ℕ → List ℕ
flag_name address = ascii "kernel-mode-pc-flag-" ++ decimal_text address

-- the name once it stands at a place of our area
abbrev pub name_at : ℕ → ℕ → Name
name_at at address = record { area = our_area; at = at; len = length (flag_name address) }
