-- How an edge or a dispatch goes into the flag of an address: unicorn's `control_flow_from_*`, line by line under the Rust's names, over any
-- type A of places.
use Rattle.std.specs.Prelude.{Bool, cond}
use Rattle.btor2.specs.declared.Name.{Name}
use Rattle.btor2.specs.declared.NodeType.TheVariants.{Bit}
use Rattle.builder.specs.Prog.{Prog, done, ◌>>=◌}
use Rattle.builder.specs.OneLine.{new_ite, new_eq, new_and_bit, new_state, new_next}

-- the zero and the one bit, and whether a place is the zero bit's own
pub record Bits (A : Type 0) : Type 0 where
  pub zero : A
  pub one : A
  pub is_zero : A → Bool

-- the kernel-mode and the kernel-not node
pub record Kernel (A : Type 0) : Type 0 where
  pub mode : A
  pub none : A

module _ {A : Type 0} where
  -- "A flow that is the zero-bit node itself is replaced without an ite"
  unfoldable pub control_flow_from_any : Bits A → A → A → Prog A A
  control_flow_from_any b activate flow = cond (b.is_zero flow) (done activate) (new_ite Bit activate b.one flow)

  -- flag: that of the edge's source
  unfoldable pub control_flow_from_regular : Bits A → A → A → Prog A A
  control_flow_from_regular b flag flow = control_flow_from_any b flag flow

  unfoldable pub control_flow_from_branch : Bits A → A → A → A → Prog A A
  control_flow_from_branch b flag condition flow = do
    a ← new_and_bit flag condition
    control_flow_from_any b a flow

  unfoldable pub control_flow_from_ecall : Bits A → Kernel A → A → Name → A → Prog A A
  control_flow_from_ecall b k flag name flow = do
    s ← new_state Bit b.zero name
    i ← new_ite Bit s k.mode flag
    n ← new_next Bit s i
    a ← new_and_bit s k.none
    control_flow_from_any b a flow

  -- register: its node; dynamic: its dynamic flag; pc: the address node
  unfoldable pub control_flow_from_jalr : Bits A → A → A → A → A → Prog A A
  control_flow_from_jalr b register dynamic pc flow = do
    e ← new_eq register pc
    a ← new_and_bit dynamic e
    control_flow_from_any b a flow
