-- The operators that the builder composes, line by line as unicorn's functions of these names do.
use Rattle.std.specs.Prelude.{◌^◌, Bool, true, false}
use Rattle.btor2.specs.declared.NodeType.TheVariants.{Bit}
use Rattle.btor2.specs.Op.{add, sub, sll, srl, ult}
use Rattle.builder.specs.Prog.{Prog, ◌>>=◌}
use Rattle.builder.specs.OneLine.{new_const, new_bin, new_ite, new_eq, new_and_bit, new_and_word, new_not_bit, new_not_word}

module _ {A : Type 0} where
  unfoldable pub new_neq : A → A → Prog A A
  new_neq left right = do
    e ← new_eq left right
    new_not_bit e

  unfoldable pub new_ugte : A → A → Prog A A
  new_ugte left right = do
    u ← new_bin ult left right
    new_not_bit u

  -- signed less, by a constant of its own
  unfoldable pub new_slt : A → A → Prog A A
  new_slt left right = do
    bias ← new_const (2 ^ 63)
    l ← new_bin add left bias
    r ← new_bin add right bias
    new_bin ult l r

  unfoldable pub new_sgte : A → A → Prog A A
  new_sgte left right = do
    s ← new_slt left right
    new_not_bit s

  unfoldable pub new_or : A → A → Prog A A
  new_or left right = do
    l ← new_not_word left
    r ← new_not_word right
    b ← new_and_word l r
    new_not_word b

  unfoldable pub new_xor : A → A → Prog A A
  new_xor left right = do
    o ← new_or left right
    b ← new_and_word left right
    new_bin sub o b

  -- shift right arithmetic, by a constant of its own
  unfoldable pub new_sra : A → A → Prog A A
  new_sra value shift = do
    c ← new_const (2 ^ 63)
    s ← new_bin add value c
    x ← new_bin srl s shift
    y ← new_bin srl c shift
    new_bin sub x y

  -- srl or sra
  unfoldable pub new_shift_right : Bool → A → A → Prog A A
  new_shift_right true value shift = new_sra value shift
  new_shift_right false value shift = new_bin srl value shift

  -- (value << n) >>s n, where n is a line
  unfoldable pub new_sext_by : A → A → Prog A A
  new_sext_by value n = do
    x ← new_bin sll value n
    new_sra x n

  -- (value << 32) >>s 32
  unfoldable pub new_sext32 : A → Prog A A
  new_sext32 value = do
    thirtytwo ← new_const 32
    new_sext_by value thirtytwo

  unfoldable pub check_addition_overflow : A → A → A → A → A → Prog A A
  check_addition_overflow flag flow rs1 rs2 rd = do
    bits ← new_const 63
    x ← new_bin srl rs1 bits
    y ← new_bin srl rs2 bits
    z ← new_bin srl rd bits
    equal ← new_eq x y
    overflow ← new_neq x z
    occurred ← new_and_bit equal overflow
    new_ite Bit flag occurred flow

  -- its `or` takes Bits for Words, and its ite a Word for a Bit: as the Rust has it
  unfoldable pub check_multiplication_overflow : A → A → A → A → A → A → Prog A A
  check_multiplication_overflow flag zero flow rs1 rs2 rd = do
    bits ← new_const 63
    x ← new_bin srl rs1 bits
    y ← new_bin srl rs2 bits
    z ← new_bin srl rd bits
    equal ← new_eq x y
    minus ← new_neq z zero
    msb ← new_eq equal minus
    notMsb ← new_eq equal minus
    occurred ← new_or msb notMsb
    new_ite Bit flag occurred flow
