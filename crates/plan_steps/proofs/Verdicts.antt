-- The verdict on a plan, by how far its lines have been judged.
use Rattle.base_laws.proofs.Kit.{ℕ, suc, ◌<◌, ◌≡◌, ◌∙◌, true, false, List, eqb, length}
use Rattle.base_search.specs.declared.Refusal.{Refusal}
use Rattle.base_search.specs.Checks.{refusal, verdict, table}
use Rattle.base_search.proofs.Laws.{or-else-passes, or-else-refused, first-stop, first_passes, checked-passes, checked_refused}
use Rattle.text_reader.specs.Lines.{Line}
use Rattle.model.specs.Network.{step_count}
use Rattle.model.specs.Table.{step_rules, line_checks, plan_line_checks}
use Rattle.plan_steps.specs.PlanLine.{formed}
use Rattle.std.specs.Prelude.{Ok, Err}

module _ (network plan : List Line) where
  pub line-malformed : (n : ℕ) → formed network plan n ≡ false → verdict (line_checks network plan n) ≡ Err (refusal 9 (suc n) 0)
  unfolding verdict line_checks
  line-malformed n h = or-else-refused _ _ _ (checked_refused (formed network plan n) 9 (suc n) 0 h)

  pub line-formed : (n : ℕ) → formed network plan n ≡ true
      → verdict (line_checks network plan n)
      ≡ verdict (table (suc n) (step_rules network plan n))
  unfolding verdict line_checks
  line-formed n h = or-else-passes _ _ (checked-passes (formed network plan n) 9 (suc n) 0 h)

  -- lines that pass up to one that is refused
  pub plan-stops : (n : ℕ) (r : Refusal) → ((m : ℕ) → m < n → verdict (line_checks network plan m) ≡ Ok tt) → n < step_count network
      → verdict (line_checks network plan n) ≡ Err r → verdict (plan_line_checks network plan) ≡ Err r
  unfolding verdict plan_line_checks
  plan-stops n r h l e = or-else-refused _ _ r (first-stop (λ m. verdict (line_checks network plan m)) (step_count network) n r h l e)

  module _ (all : (m : ℕ) → m < step_count network → verdict (line_checks network plan m) ≡ Ok tt) where
    -- all lines pass, and more follow
    pub plan-surplus : eqb (length plan) (step_count network) ≡ false → verdict (plan_line_checks network plan) ≡ Err (refusal 9 (suc (step_count network)) 0)
    unfolding verdict plan_line_checks
    plan-surplus h =
        or-else-passes _ _ (first_passes (λ m. verdict (line_checks network plan m)) (step_count network) all) ∙ checked_refused _ 9 (suc (step_count network)) 0 h

    -- all lines pass, and nothing follows
    pub plan-passes : eqb (length plan) (step_count network) ≡ true → verdict (plan_line_checks network plan) ≡ Ok tt
    unfolding verdict plan_line_checks
    plan-passes h =
        or-else-passes _ _ (first_passes (λ m. verdict (line_checks network plan m)) (step_count network) all) ∙ checked-passes _ 9 (suc (step_count network)) 0 h
