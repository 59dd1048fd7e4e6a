-- `plancheck_files::run` is safe and ends: what was written fits the buffer.
use Rattle.base_laws.proofs.Kit.{sym, length-take-le}
use Rattle.plancheck_files.proofs.Laws.{end-within}
use Rattle.plancheck_files.proofs.run.Goals as goal

pub slice_bounds-out-end : goal.slice_bounds-out-end
slice_bounds-out-end g c = end-within c.write_output-end.ensures

pub slice_bounds-write_all-end : goal.slice_bounds-write_all-end
slice_bounds-write_all-end g c = sym (length-take-le _ _ (end-within c.write_output-end.ensures))
