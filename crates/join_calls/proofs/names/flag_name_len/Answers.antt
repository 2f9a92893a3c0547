-- A name of at most 40 bytes from place 0 on ends below the cap. Assumes nothing.
use native.Mathlib.Omega.{arith}
use Rattle.join.proofs.FlagName.{flag_name_length}
use Rattle.join_calls.proofs.names.flag_name_len.Goals as goal

pub returns : goal.returns
returns c =
    let h = flag_name_length c.args.address in
    let e = c.put_flag_name.ensures.next in record { is = omega arith; most = omega arith }
