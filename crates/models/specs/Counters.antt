-- Addresses, counted reads, and loads and stores: unicorn's `model_address`, `new_read` and `new_write` where they count, `model_l`,
-- `model_s`, `model_ld` and `model_sd`.
use Rattle.std.specs.Prelude.{ℕ, ◌-◌, ◌^◌, Bool, true, false}
use Rattle.btor2.specs.declared.NodeType.TheVariants.{Word, Memory}
use Rattle.btor2.specs.Op.{add, sub, mul, sll, ult}
use Rattle.builder.specs.Prog.{Prog, done, ◌>>=◌}
use Rattle.builder.specs.OneLine.{new_const, new_read, new_write, new_bin, new_ite, new_and_word, new_not_word}
use Rattle.builder_ops.specs.Composed.{new_or, new_shift_right}
use Rattle.models.specs.Places.{Operands, Flows, Modeled, Counted, register, memory, with_memory, with_access, gives}

module _ {A : Type 0} where
  -- the counter cell is raised by one, and the maximum where the raised count is above the maximum's node
  unfoldable pub counted_read : Operands A → Flows A → A → Prog A (Counted A)
  counted_read e f address = do
    current ← new_read e.counter address
    next ← new_bin add current e.one
    above ← new_bin ult e.maximum next
    update ← new_ite Word above next e.maximum
    maximum ← new_ite Word e.flag update f.maximum
    cell ← new_write e.counter address next
    counter ← new_ite Memory e.flag cell f.counter
    node ← new_read e.memory address
    done (record { counter = counter; maximum = maximum; node = node })

  -- imm is 0: the register's node itself
  unfoldable pub model_address : Bool → ℕ → A → Prog A A
  model_address true imm rs1 = done rs1
  model_address false imm rs1 = do
    c ← new_const imm
    new_bin add rs1 c

  -- the address of the word that an address is in
  unfoldable pub word_address : A → Prog A A
  word_address address = do
    mask ← new_const (2 ^ 64 - 8)
    new_and_word address mask

  -- how many bits its byte stands above the lowest of that word
  unfoldable pub bit_offset : A → Prog A A
  bit_offset address = do
    eight ← new_const 8
    seven ← new_const 7
    offset ← new_and_word address seven
    new_bin mul eight offset

  -- a load of 64 - spare bits at an address; it counts nothing
  unfoldable pub model_l : Operands A → Flows A → ℕ → Bool → A → Prog A (Modeled A)
  model_l e f spare signed address = do
    word ← word_address address
    access ← new_ite Word e.flag word f.access
    cell ← new_read e.memory word
    amount ← bit_offset address
    up ← new_const spare
    left ← new_bin sub up amount
    high ← new_bin sll cell left
    value ← new_shift_right signed high up
    done (gives (with_access f access) (register value))

  unfoldable pub model_ld : Operands A → Flows A → Bool → ℕ → Prog A (Modeled A)
  model_ld e f z imm = do
    address ← model_address z imm e.rs1
    access ← new_ite Word e.flag address f.access
    c ← counted_read e f address
    done (gives (with_memory f c.counter c.maximum access) (register c.node))

  -- a store of the bits of `ones` at an address; it counts a read
  unfoldable pub model_s : Operands A → Flows A → ℕ → A → Prog A (Modeled A)
  model_s e f ones address = do
    word ← word_address address
    access ← new_ite Word e.flag word f.access
    c ← counted_read e f word
    bits ← new_const ones
    amount ← bit_offset address
    place ← new_bin sll bits amount
    rest ← new_not_word place
    value ← new_bin sll e.rs2 amount
    new ← new_and_word value place
    old ← new_and_word c.node rest
    both ← new_or new old
    write ← new_write e.memory word both
    done (gives (with_memory f c.counter c.maximum access) (memory write))

  -- the counter cell is set to zero
  unfoldable pub model_sd : Operands A → Flows A → Bool → ℕ → Prog A (Modeled A)
  model_sd e f z imm = do
    address ← model_address z imm e.rs1
    access ← new_ite Word e.flag address f.access
    cell ← new_write e.counter address e.zero
    counter ← new_ite Memory e.flag cell f.counter
    write ← new_write e.memory address e.rs2
    done (gives (with_memory f counter f.maximum access) (memory write))

  -- Lb, Lh, Lw, Lbu, Lhu; Sb, Sh, Sw
  unfoldable pub model_load : Operands A → Flows A → Bool → ℕ → ℕ → Bool → Prog A (Modeled A)
  model_load e f z imm spare signed = do
    address ← model_address z imm e.rs1
    model_l e f spare signed address

  unfoldable pub model_store : Operands A → Flows A → Bool → ℕ → ℕ → Prog A (Modeled A)
  model_store e f z imm ones = do
    address ← model_address z imm e.rs1
    model_s e f ones address
