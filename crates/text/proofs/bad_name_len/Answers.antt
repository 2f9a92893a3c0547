-- A name of at most 33 bytes from place 0 on ends below the cap. Assumes nothing.
use native.Mathlib.Omega.{arith}
use Rattle.text.proofs.Laws.{bad_name_length}
use Rattle.text.proofs.bad_name_len.Goals as goal

pub returns : goal.returns
returns c =
    let h = bad_name_length c.args.address in
    let e = c.put_bad_name.ensures.next in record { is = omega arith; most = omega arith }
