-- `network_writer::column_at` meets its contract.
use Rattle.network_writer.proofs.Plan.{column-mask, column-admitted, column-let-out, column-moved}
use Rattle.network_writer.proofs.column_at.Goals as goal

pub returns-then-k-counts : goal.returns-then-k-counts
returns-then-k-counts c = search column-mask

pub returns-then-i-counts : goal.returns-then-i-counts
returns-then-i-counts c = search column-admitted

pub returns-then-j-counts : goal.returns-then-j-counts
returns-then-j-counts c = search column-let-out

pub returns : goal.returns
returns c = search column-moved
