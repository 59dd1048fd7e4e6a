-- `cases_files::files::run` is safe and ends.
use Rattle.std.proofs.Common.{sym, subst}
use denote.Param.Always.{always_fn, mut_by}
use Rattle.cases_files.proofs.files.run.Goals as goal

-- a reference to what may always be called may be called too, at a file that it borrows again
pub run_file-requires : goal.run_file-requires
run_file-requires g c =
    mut_by _ (λ y. always_fn g.F.Fn y.now) (λ s a i n. i.at _) (λ s a r t i e. subst (λ y. always_fn g.F.Fn y.now) (sym e.met.2) i) _ c.requires
