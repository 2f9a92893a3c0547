-- The numbers of the kinds of line, from 1 in the order of unicorn's `Node`; BTOR2's names.
use Rattle.std.specs.Prelude.{ℕ}

abbrev pub const_kind : ℕ
const_kind = 1

abbrev pub read_kind : ℕ
read_kind = 2

abbrev pub write_kind : ℕ
write_kind = 3

abbrev pub add_kind : ℕ
add_kind = 4

abbrev pub sub_kind : ℕ
sub_kind = 5

abbrev pub mul_kind : ℕ
mul_kind = 6

abbrev pub udiv_kind : ℕ
udiv_kind = 7

abbrev pub sdiv_kind : ℕ
sdiv_kind = 8

abbrev pub urem_kind : ℕ
urem_kind = 9

abbrev pub sll_kind : ℕ
sll_kind = 10

abbrev pub srl_kind : ℕ
srl_kind = 11

abbrev pub ult_kind : ℕ
ult_kind = 12

abbrev pub uext_kind : ℕ
uext_kind = 13

abbrev pub ite_kind : ℕ
ite_kind = 14

abbrev pub eq_kind : ℕ
eq_kind = 15

abbrev pub and_kind : ℕ
and_kind = 16

abbrev pub or_kind : ℕ
or_kind = 17

abbrev pub not_kind : ℕ
not_kind = 18

abbrev pub state_kind : ℕ
state_kind = 19

abbrev pub next_kind : ℕ
next_kind = 20

abbrev pub input_kind : ℕ
input_kind = 21

abbrev pub bad_kind : ℕ
bad_kind = 22
