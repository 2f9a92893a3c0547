-- The chunk at the place, where there are as many. Assumes nothing.
use Rattle.btor2_list.proofs.Words.{record_found}
use Rattle.btor2_list.proofs.record.Goals as goal

pub returns : goal.returns
returns c = record_found c.args.list.now c.args.place.0 _ c.as_chunks.ensures.front c.as_chunks.ensures.front_len c.get.result c.get.ensures.lookup.3
