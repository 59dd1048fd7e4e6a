-- `plan_compare::compare_on_network` meets its contract.
use Rattle.plan_compare.specs.declared.ComparisonRefusal.TheVariants.{First, Second}
use Rattle.plan_compare.proofs.Call.{passed-ok, passed-as, first-refused, second-refused, texts-formed, time-words, both-accepted}
use Rattle.plan_compare.proofs.compare_on_network.Goals as goal

pub returns-in_err-first_totals : goal.returns-in_err-first_totals
returns-in_err-first_totals c =
    let (r, refused, is) = passed-as First _ c.map_err.ensures.cases c.in_err-first_totals.was c.from_residual.ensures.1 in
    rw is (first-refused _ _ _ _ _ c.requires.tabled.holds c.judge_loaded.ensures refused)

pub returns-in_err-second_totals : goal.returns-in_err-second_totals
returns-in_err-second_totals c =
    let (r, refused, is) = passed-as Second _ c.map_err-2.ensures.cases c.in_err-second_totals.was c.from_residual-in_err-second_totals.ensures.1 in
    rw is
    (second-refused _ _ _ _ _ c.requires.tabled.holds c.judge_loaded.ensures (passed-ok First _ c.map_err.ensures.cases c.in_ok-first_totals.was) c.judge_loaded-2.ensures refused)

pub order_of_texts-requires : goal.order_of_texts-requires
order_of_texts-requires c =
    let l = c.requires.tabled in
    let one = passed-ok First _ c.map_err.ensures.cases c.in_ok-first_totals.was in
    texts-formed _ _ _ _ _ l.holds c.judge_loaded.ensures one c.judge_loaded-2.ensures (passed-ok Second _ c.map_err-2.ensures.cases c.in_ok-second_totals.was) l.counted

pub gap_between-requires : goal.gap_between-requires
gap_between-requires c =
    let one = passed-ok First _ c.map_err.ensures.cases c.in_ok-first_totals.was in
    time-words _ _ _ _ _ c.requires.tabled.holds c.judge_loaded.ensures one c.judge_loaded-2.ensures (passed-ok Second _ c.map_err-2.ensures.cases c.in_ok-second_totals.was)

pub returns : goal.returns
returns c =
    let l = c.requires.tabled in
    let one = passed-ok First _ c.map_err.ensures.cases c.in_ok-first_totals.was in
    let other = passed-ok Second _ c.map_err-2.ensures.cases c.in_ok-second_totals.was in
    both-accepted _ _ _ _ _ l.holds c.judge_loaded.ensures one c.judge_loaded-2.ensures other l.counted c.order_of_texts.ensures c.gap_between.ensures
