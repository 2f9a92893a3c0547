-- Many calls in one leave what demand 3's `run` leaves, each call being lent what the one before it left, up to and with the first that is
-- refused. So what demand 3 says of a list of calls, it says of `lower_all`'s.
use Rattle.std.specs.Prelude.{◌≡◌, true, false, List, [], ◌∷◌, eqb}
use Rattle.state.specs.declared.State.{State}
use Rattle.lowering.specs.Lowering.{Lent, lowering}
use Rattle.lowering.specs.declared.LowerCall.{LowerCall}
use Rattle.lowering.specs.All.{lowering_on}
use Rattle.demand.specs.Calls.{Held, Request, Call, lower, run}

abbrev pub held : Lent → State → Held
held l st = record { list = l.list; names = l.names; state = st }

abbrev pub request : Lent → State → LowerCall → Request
request l st c = record {
  call = c;
  list = l.list;
  names = l.names;
  edges = l.edges;
  dispatches = l.dispatches;
  bads = l.bads;
  edge_count = st.counts.edges;
  dispatch_count = st.counts.dispatches;
  bad_count = st.counts.bads;
}

unfoldable pub requests : Lent → State → List LowerCall → List Call
requests l st [] = []
requests l st (c ∷ cs) =
    let a = lowering l st c.instruction c.address c.flag in
    lower (request l st c) ∷ elim (eqb a.lowered.refusal 0) [
      | true ↦ requests a.lent a.lowered.state cs
      | false ↦ []
    ]

abbrev pub ManyAreRun : Type 0
ManyAreRun = (l : Lent) (st : State) (cs : List LowerCall)
    → run (held l st) (requests l st cs) ≡ held (lowering_on 0 l st cs).lent (lowering_on 0 l st cs).state
