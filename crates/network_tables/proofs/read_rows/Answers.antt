-- `network_tables::read_rows` meets its contract.
use Rattle.std.proofs.Common.{◌≡◌, refl, ◌∙◌, arith, None, rules}
use Rattle.base_laws.proofs.Kit.{length-set, length-replicate}
use Rattle.base_search.proofs.Laws.{passed_on}
use Rattle.network_tables.proofs.Blocks.{table-begin, judged-malformed, judged-broken, judged-next, rows-refused}
use Rattle.network_tables.proofs.read_rows.Goals as goal

pub loop-k-init : goal.loop-k-init
loop-k-init g c = (refl, length-replicate g.row.W 0, λ b judged s. table-begin s refl)

pub returns-in_default : goal.returns-in_default
returns-in_default g c = λ b judged s.
    let none : c.read_row.result ≡ None = search (rules) in
    rw c.refusal.ensures
    (rows-refused {table = c.loop-k.table} (judged-malformed judged (c.loop-k.invariant.2 b judged s) c.loop-k-test.true c.read_row.ensures c.loop-k.invariant.1 none))

pub returns-in_err-judge : goal.returns-in_err-judge
returns-in_err-judge g c = λ b judged s.
    rw (passed_on _ _ c.from_residual.ensures.1)
    (rows-refused (judged-broken judged (c.loop-k.invariant.2 b judged s) c.loop-k-test.true c.read_row.ensures c.loop-k.invariant.1 c.in-Some.is (omega (arith, c.loop-k-test.true, c.requires.room)) c.from.ensures refl c.judge.ensures c.in_err-judge.was))

pub loop-k-preserved : goal.loop-k-preserved
loop-k-preserved g c = (
  length-set c.loop-k.table c.loop-k.k c.from.result ∙ c.loop-k.invariant.0,
  c.read_row.ensures.size ∙ c.loop-k.invariant.1,
  λ b judged s. judged-next judged (c.loop-k.invariant.2 b judged s) c.loop-k-test.true c.read_row.ensures c.loop-k.invariant.1 c.in-Some.is (omega (arith, c.loop-k-test.true, c.requires.room)) c.from.ensures refl c.judge.ensures c.in_ok-judge.was,
)
