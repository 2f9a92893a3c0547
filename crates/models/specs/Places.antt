-- What the programs of the kinds read, set and give, over any type A of places.

-- the flag, the nodes of rs1 and rs2, and nodes of the start
pub record Operands (A : Type 0) : Type 0 where
  pub flag : A
  pub rs1 : A
  pub rs2 : A
  pub zero : A
  pub one : A
  pub true_bit : A
  pub memory : A
  pub counter : A
  pub maximum : A

-- the flows besides those of registers and memory
pub record Flows (A : Type 0) : Type 0 where
  pub counter : A
  pub maximum : A
  pub division : A
  pub remainder : A
  pub access : A
  pub addition : A
  pub multiplication : A
  pub ecall : A

-- a word for rd, a memory, or the two conditions of a branch
pub data Outcome (A : Type 0) : Type 0 where
  nothing : Outcome A
  register : A → Outcome A
  memory : A → Outcome A
  branch : A → A → Outcome A

pub record Modeled (A : Type 0) : Type 0 where
  pub flows : Flows A
  pub outcome : Outcome A

-- a read that counts: the flows that it sets, and the word
pub record Counted (A : Type 0) : Type 0 where
  pub counter : A
  pub maximum : A
  pub node : A

module _ {A : Type 0} where
  -- the flows that one kind or another sets
  abbrev pub with_memory : Flows A → A → A → A → Flows A
  with_memory f counter maximum access = record { counter = counter; maximum = maximum; division = f.division; remainder = f.remainder; access = access; addition = f.addition; multiplication = f.multiplication; ecall = f.ecall }

  abbrev pub with_access : Flows A → A → Flows A
  with_access f access = with_memory f f.counter f.maximum access

  abbrev pub with_division : Flows A → A → Flows A
  with_division f x = record { counter = f.counter; maximum = f.maximum; division = x; remainder = f.remainder; access = f.access; addition = f.addition; multiplication = f.multiplication; ecall = f.ecall }

  abbrev pub with_remainder : Flows A → A → Flows A
  with_remainder f x = record { counter = f.counter; maximum = f.maximum; division = f.division; remainder = x; access = f.access; addition = f.addition; multiplication = f.multiplication; ecall = f.ecall }

  abbrev pub with_addition : Flows A → A → Flows A
  with_addition f x = record { counter = f.counter; maximum = f.maximum; division = f.division; remainder = f.remainder; access = f.access; addition = x; multiplication = f.multiplication; ecall = f.ecall }

  abbrev pub with_multiplication : Flows A → A → Flows A
  with_multiplication f x = record { counter = f.counter; maximum = f.maximum; division = f.division; remainder = f.remainder; access = f.access; addition = f.addition; multiplication = x; ecall = f.ecall }

  abbrev pub with_ecall : Flows A → A → Flows A
  with_ecall f x = record { counter = f.counter; maximum = f.maximum; division = f.division; remainder = f.remainder; access = f.access; addition = f.addition; multiplication = f.multiplication; ecall = x }

  abbrev pub gives : Flows A → Outcome A → Modeled A
  gives f o = record { flows = f; outcome = o }
