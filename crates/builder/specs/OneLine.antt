-- The builder's operators of one line, under the Rust's names.
use Rattle.std.specs.Prelude.{ℕ}
use Rattle.btor2.specs.declared.Name.{Name}
use Rattle.btor2.specs.declared.NodeType.{NodeType}
use Rattle.btor2.specs.declared.NodeType.TheVariants.{Bit, Word}
use Rattle.btor2.specs.Op.{Bin, Op, const, read, write, bin, uext, ite, eq, and, not, state_init, next, bad}
use Rattle.builder.specs.Prog.{Prog, done, line}

module _ {A : Type 0} where
  abbrev pub emit : Op A → Prog A A
  emit o = line o done

  abbrev pub new_const : ℕ → Prog A A
  new_const imm = emit (const Word imm)

  abbrev pub new_read : A → A → Prog A A
  new_read memory address = emit (read memory address)

  abbrev pub new_write : A → A → A → Prog A A
  new_write memory address value = emit (write memory address value)

  -- add, sub, mul, divu, div, rem, sll, srl, ult
  abbrev pub new_bin : Bin → A → A → Prog A A
  new_bin o left right = emit (bin o left right)

  abbrev pub new_ext : NodeType → A → Prog A A
  new_ext from value = emit (uext from value)

  abbrev pub new_ite : NodeType → A → A → A → Prog A A
  new_ite sort c left right = emit (ite sort c left right)

  abbrev pub new_eq : A → A → Prog A A
  new_eq left right = emit (eq left right)

  abbrev pub new_and : NodeType → A → A → Prog A A
  new_and sort left right = emit (and sort left right)

  abbrev pub new_and_bit : A → A → Prog A A
  new_and_bit = new_and Bit

  abbrev pub new_and_word : A → A → Prog A A
  new_and_word = new_and Word

  abbrev pub new_not : NodeType → A → Prog A A
  new_not sort value = emit (not sort value)

  abbrev pub new_not_bit : A → Prog A A
  new_not_bit = new_not Bit

  abbrev pub new_not_word : A → Prog A A
  new_not_word = new_not Word

  abbrev pub new_bad : A → Name → Prog A A
  new_bad c name = emit (bad c name)

  -- with an init, so that it takes two identifiers
  abbrev pub new_state : NodeType → A → Name → Prog A A
  new_state sort init name = emit (state_init sort init name)

  abbrev pub new_next : NodeType → A → A → Prog A A
  new_next sort state value = emit (next sort state value)
