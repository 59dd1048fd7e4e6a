-- `network_past::is_valid` meets its contract.
use Rattle.std.proofs.Common.{sym, ◌∙◌, rules}
use Rattle.network_past.proofs.End.{untimed, past-asked, overflow, past-held, links-asked, past-valid}
use Rattle.network_past.proofs.is_valid.Goals as goal

pub returns-then-not-tables : goal.returns-then-not-tables
returns-then-not-tables c = record { judged = search (untimed, rules); held = λ e. cc }

pub load_past-requires : goal.load_past-requires
load_past-requires c = past-asked c.requires (search rules)

pub valid_links-requires : goal.valid_links-requires
valid_links-requires c = links-asked c.requires (search rules) c.load_past.ensures (sym c.is_some.ensures ∙ c.if-is_some.true)

pub returns-then-is_some : goal.returns-then-is_some
returns-then-is_some c =
    let some = sym c.is_some.ensures ∙ c.if-is_some.true in
    record {
      judged = c.valid_links.ensures ∙ past-valid c.requires (search rules) c.load_past.ensures some;
      held = λ _. past-held c.requires (search rules) c.load_past.ensures some;
    }

pub returns-else-is_some : goal.returns-else-is_some
returns-else-is_some c =
    record {
      judged = c.if-is_some.false ∙ sym (overflow c.requires (search rules) c.load_past.ensures (sym c.is_some.ensures ∙ c.if-is_some.false));
      held = λ e. cc;
    }
