-- Lines whose text is known: document 01's listing, and unicorn's formats. Assumes nothing.
use Rattle.std.proofs.Common.{◌≡◌, ℕ, ◌-◌, ◌^◌, List, refl}
use Rattle.btor2.specs.declared.Name.{Name}
use Rattle.btor2.specs.declared.NodeType.TheVariants.{Bit, Word, Input3Byte}
use Rattle.btor2.specs.Op.{ult, const, bin, uext, ite, not, state_init, bad}
use Rattle.btor2_list.specs.Node.{no_name}
use Rattle.text.specs.Numeral.{numeral}
use Rattle.text.specs.Ascii.{ascii}
use Rattle.row_text.specs.Row.{row_text}
use Rattle.line_text.specs.Record.{line_text, printed_name}

-- the areas hold `flag` and `address`
names : Name → List ℕ
names = printed_name (ascii "flag") (ascii "pc")

lui : line_text names 59 (const Word 4096) ≡ ascii "59 constd 2 4096\n"
unfolding line_text row_text numeral
lui = refl

flow : line_text names 60 (ite Word 58 59 28) ≡ ascii "60 ite 2 58 59 28\n"
unfolding line_text row_text numeral
flow = refl

bltu : line_text names 61 (bin ult 28 29) ≡ ascii "61 ult 1 28 29\n"
unfolding line_text row_text numeral
bltu = refl

bltu_not : line_text names 62 (not Bit 61) ≡ ascii "62 not 1 61\n"
unfolding line_text row_text numeral
bltu_not = refl

largest : line_text names 7 (const Word (2 ^ 64 - 1)) ≡ ascii "7 constd 2 18446744073709551615\n"
unfolding line_text row_text numeral
largest = refl

-- `64 - from.bitsize()`
three_bytes : line_text names 7 (uext Input3Byte 5) ≡ ascii "7 uext 2 5 40\n"
unfolding line_text row_text numeral
three_bytes = refl

-- the init's row has the next identifier
with_init : line_text names 9 (state_init Bit 5 (record { area = 1; at = 0; len = 4 })) ≡ ascii "9 state 1 flag\n10 init 1 9 5\n"
unfolding line_text printed_name names row_text numeral
with_init = refl

empty_name : line_text names 9 (bad 5 (record { area = 2; at = 2; len = 0 })) ≡ ascii "9 bad 5 \n"
unfolding line_text printed_name names row_text numeral
empty_name = refl

missing_name : line_text names 9 (bad 5 no_name) ≡ ascii "9 bad 5 ?\n"
unfolding line_text printed_name names row_text numeral
missing_name = refl
