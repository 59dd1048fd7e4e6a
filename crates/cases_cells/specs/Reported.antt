-- The answer of a run in the stored form.
use Rattle.std.specs.Prelude.{ℕ, Bool, ◌&&◌, ◌==◌, List, ◌++◌, Result, Ok, Err, Some, None}
use Rattle.std.specs.Int.{w32, w64, to_le_bytes}
use Rattle.base_search.specs.declared.Refusal.{Refusal}
use Rattle.cells_call.specs.declared.CellsRun.{CellsRun}
use Rattle.cases_files.specs.Refusals.{same_refusal, stored_bytes}
use Rattle.cases_cells.specs.declared.reported.Flows.{Flows}
use Rattle.cases_cells.specs.declared.reported.Reported.{Reported}

abbrev pub reported_of : Result CellsRun Refusal → Reported
reported_of (Ok run) = record {
  refusal = None;
  flows = record { cells = run.cells; flow_in = run.flow_in; flow_out = run.flow_out };
}
reported_of (Err r) = record {
  refusal = Some r;
  flows = record { cells = 0; flow_in = 0; flow_out = 0 };
}

abbrev pub flows_bytes : Flows → List ℕ
flows_bytes flows =
    to_le_bytes w32 flows.cells ++ to_le_bytes w64 flows.flow_in ++ to_le_bytes w64 flows.flow_out

-- the refusal's three numbers, 0 each where nothing is refused, and the flows
abbrev pub reported_bytes : Reported → List ℕ
reported_bytes reported = stored_bytes reported.refusal ++ flows_bytes reported.flows

abbrev pub flows_eq : Flows → Flows → Bool
flows_eq one other = one.cells == other.cells && one.flow_in == other.flow_in && one.flow_out == other.flow_out

abbrev pub same_reported : Reported → Reported → Bool
same_reported one other = same_refusal one.refusal other.refusal && flows_eq one.flows other.flows
