-- One piece after the other. Assumes nothing.
use Rattle.std.proofs.Common.{◌^◌, ◌<◌, length, arith}
use Rattle.text.proofs.Laws.{then, put_as}
use Rattle.listing_text.specs.Remarks.{edge_text}
use Rattle.listing_text.proofs.in_edges.put_edge.Goals as goal

pub returns : goal.returns
unfolding edge_text
returns c =
    let h : length c.args.out.now < 2 ^ 64 = omega arith in
    let word = put_as c.put_bytes-at-3.ensures c.origin_word.ensures in
    then h (then h (then h (then h (then h (then h (then h (then h c.put_bytes-at.ensures c.put_decimal-at.ensures) c.put_bytes-at-2.ensures) c.put_decimal-at-2.ensures) c.put_byte-at.ensures) word) c.put_byte-at-2.ensures) c.put_condition-at.ensures) c.put_byte.ensures
