-- One piece after the other. Assumes nothing.
use Rattle.std.proofs.Common.{◌^◌, ◌<◌, length, arith}
use Rattle.text.proofs.Laws.{then}
use Rattle.listing_text.specs.Remarks.{dispatch_text}
use Rattle.listing_text.proofs.put_dispatch.Goals as goal

pub returns : goal.returns
unfolding dispatch_text
returns c =
    let h : length c.args.out.now < 2 ^ 64 = omega arith in
    then h (then h (then h (then h c.put_bytes-at.ensures c.put_decimal-at.ensures) c.put_byte-at.ensures) c.put_decimal-at-2.ensures) c.put_byte.ensures
