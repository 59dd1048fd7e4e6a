-- The ways out of a comparison.
use Rattle.base_laws.proofs.Kit.{ℕ, ◌<◌, ◌≡◌, refl, sym, ap, ◌∙◌, List, le_refl, arith, length}
use lib.IntN.{ℤ, sub_ℕ}
use mir.Syntax.{w64}
use mir.Val.{to_z, of_z}
use Rattle.base_search.specs.declared.Refusal.{Refusal}
use Rattle.base_search.specs.Checks.{verdict, Hold}
use Rattle.base_search.specs.Numbers.{is_one_of}
use Rattle.base_search.proofs.Laws.{passes-of-hold, passed_on}
use Rattle.base_search.proofs.Numbers.{refused-number, all_of}
use Rattle.text_reader.specs.Lines.{Line, lines}
use Rattle.text_reader.specs.Padding.{PaddingIgnored}
use Rattle.text_reader.proofs.Padding.{same_lines}
use Rattle.model.specs.declared.Totals.{Totals}
use Rattle.model.specs.Network.{step_count}
use Rattle.model.specs.Table.{network_checks, plan_checks}
use Rattle.model.specs.Hold.{plan_of}
use Rattle.model.specs.Calls.{check_network, ledger_after}
use Rattle.model.specs.Guarantees.{plan_numbers}
use Rattle.model.proofs.Limits.{counts}
use Rattle.model.proofs.Bounds.{doubled-small}
use Rattle.model.proofs.Hold.{refused-answer, refused-rows}
use Rattle.model.proofs.Numbers.{network-among}
use Rattle.network_tables.specs.declared.Counts.{Counts}
use Rattle.network_tables.specs.Tables.{CountsHold}
use Rattle.plan_check.specs.Plan.{PlanGot}
use Rattle.plan_check.proofs.Plans.{plan-promised}
use Rattle.plan_compare.specs.declared.Order.{Order}
use Rattle.plan_compare.specs.declared.Comparison.{Comparison}
use Rattle.plan_compare.specs.declared.ComparisonRefusal.{ComparisonRefusal}
use Rattle.plan_compare.specs.declared.ComparisonRefusal.TheVariants.{Network, First, Second}
use Rattle.plan_compare.specs.Comparison.{plans_answer, network_answer, once_accepted, compare_plans, second_ledger_after}
use Rattle.plan_compare.specs.Promises.{ComparisonPromises, ComparisonGot}
use Rattle.plan_compare.specs.Curves.{lines_order, Formed}
use Rattle.plan_compare.proofs.Gap.{gap-held}
use Rattle.plan_compare.proofs.Promises.{Accepts, accepts, accepted, compared-told, compared-promises, refused-promises}
use Rattle.plan_compare.proofs.Curves.{plan-formed, order_is}
use Rattle.std.specs.Prelude.{Result, Ok, Err, MatchResult, IsErrAnd}

-- an accepted plan's doubled time is a number of 63 bits
pub time-word : {network plan : List Line} {size : ℕ} {t : Totals} → Accepts network plan size t → t.doubled_time < 9223372036854775808
time-word {network} {plan} {size} {t} a =
    let p = accepted a in
    let small = doubled-small network plan (unfold Hold plan_checks in a.holds.0) (step_count network) (le_refl _) (λ m l i u. (p.lawful m l).keeps18 i u) in
    omega (arith, a.time, (counts network p.valid).steps)

-- what `map_err` and `?` make of a call's answer
module _ (named : Refusal → ComparisonRefusal) {A : Type 0} {mapped : Result A ComparisonRefusal} where
  pub passed-ok : {a : A} (answer : Result A Refusal) → MatchResult answer (λ x. mapped ≡ Ok x) (λ r. IsErrAnd mapped (λ e. e ≡ named r)) → mapped ≡ Ok a → answer ≡ Ok a
  passed-ok {a = a} (Ok x) m e = let z : x ≡ a = cc in rw z
  passed-ok (Err r) m e = absurd (rw e at m)

  pub passed-as : {B : Type 0} {q : ComparisonRefusal} {result : Result B ComparisonRefusal} (answer : Result A Refusal)
      → MatchResult answer (λ x. mapped ≡ Ok x) (λ r. IsErrAnd mapped (λ e. e ≡ named r)) → mapped ≡ Err q → IsErrAnd result (λ e. e ≡ q)
      → (r : Refusal) × (answer ≡ Err r) × (result ≡ Err (named r))
  passed-as (Ok x) m e p = let z : ◌≡◌ {A = ℕ} 0 1 = cc in absurd (omega arith)
  passed-as {result = result} (Err r) m e p = (r, refl, passed_on result _ p ∙ ap Err (rw e at m))

module _ (network_text first_text second_text first_old second_old : List ℕ) where
  abbrev net : List Line
  net = lines network_text

  abbrev one : List Line
  one = plan_of network_text first_text

  abbrev other : List Line
  other = plan_of network_text second_text

  -- the network is refused
  pub network-refused : {r : Refusal} → verdict (network_checks net) ≡ Err r
      → ComparisonGot network_text first_text second_text first_old second_old (Err (Network r)) first_old second_old
  unfolding compare_plans network_answer second_ledger_after once_accepted check_network is_one_of all_of
  network-refused {r} v =
      record {
        answered = sym (rw v refl);
        first_rows = sym (refused-rows net r v one first_old);
        second-rows = sym (rw (refused-answer net r v one (length first_old)) refl);
        promised = refused-promises (Network r) (refused-number plan_numbers (network_checks net) r (network-among net plan_numbers refl) v);
      }

  -- it has passed
  module _ (holds : Hold (network_checks net)) where
    passes : check_network net ≡ Ok tt
    unfolding check_network
    passes = passes-of-hold (network_checks net) holds

    module _ {a : (Result Totals Refusal)} {first_new : List ℕ} (got : PlanGot network_text first_text first_old a first_new) where
      -- the first plan is refused
      pub first-refused : {r : Refusal} → a ≡ Err r → ComparisonGot network_text first_text second_text first_old second_old (Err (First r)) first_new second_old
      unfolding compare_plans network_answer plans_answer second_ledger_after once_accepted
      first-refused {r} q =
          let f = sym got.answered ∙ q in
          record {
            answered = sym (rw (passes, f) refl);
            first_rows = got.written-rows;
            second-rows = sym (rw f refl);
            promised = refused-promises (First r) ((plan-promised got).1.1.0.refused-number r q);
          }

      -- it is accepted
      module _ {t : Totals} (first-accepted : a ≡ Ok t) where
        pub first-accepts : Accepts net one (length first_old) t
        first-accepts = accepts net one (length first_old) t (sym got.answered ∙ first-accepted)

        module _ {b : (Result Totals Refusal)} {second_new : List ℕ} (also : PlanGot network_text second_text second_old b second_new) where
          second-written : second_new ≡ second_ledger_after net one other (length first_old) second_old
          unfolding second_ledger_after once_accepted
          second-written = rw first-accepts.told also.written-rows

          -- the second plan is refused
          pub second-refused : {r : Refusal} → b ≡ Err r → ComparisonGot network_text first_text second_text first_old second_old (Err (Second r)) first_new second_new
          unfolding compare_plans network_answer plans_answer
          second-refused {r} q =
              record {
                answered = sym (rw (passes, first-accepts.told, sym also.answered ∙ q) refl);
                first_rows = got.written-rows;
                second-rows = second-written;
                promised = refused-promises (Second r) ((plan-promised also).1.1.0.refused-number r q);
              }

          -- it is accepted too
          module _ {u : Totals} (second-accepted : b ≡ Ok u) where
            pub second-accepts : Accepts net other (length second_old) u
            second-accepts = accepts net other (length second_old) u (sym also.answered ∙ second-accepted)

            pub texts-formed : {counts : Counts} → CountsHold net counts → Formed counts first_text × Formed counts second_text
            texts-formed counted = (plan-formed network_text first_text counted _ first-accepts.holds, plan-formed network_text second_text counted _ second-accepts.holds)

            pub time-words : (t.doubled_time < 9223372036854775808) × (u.doubled_time < 9223372036854775808)
            time-words = (time-word first-accepts, time-word second-accepts)

            pub both-accepted : {counts : Counts} → CountsHold net counts → {o : Order} → o ≡ lines_order counts first_text second_text
                → {gap : ℤ} → gap ≡ sub_ℕ t.doubled_time u.doubled_time
                → ComparisonGot network_text first_text second_text first_old second_old (Ok (record { order = o; gap = to_z w64 (of_z w64 gap) })) first_new second_new
            both-accepted counted e {gap} g =
                rw (e ∙ order_is network_text first_text second_text counted, gap-held t.doubled_time u.doubled_time time-words.0 time-words.1 gap g) (record {
                  answered = sym (compared-told first-accepts second-accepts passes);
                  first_rows = got.written-rows;
                  second-rows = second-written;
                  promised = compared-promises first-accepts second-accepts passes;
                })

pub got-promised : {network_text first_text second_text first_old second_old : List ℕ} {answer : Result Comparison ComparisonRefusal} {first_new second_new : List ℕ}
    → ComparisonGot network_text first_text second_text first_old second_old answer first_new second_new
    → (answer ≡ compare_plans (lines network_text) (plan_of network_text first_text) (plan_of network_text second_text) (length first_old) (length second_old))
    × ((first_new ≡ ledger_after (lines network_text) (plan_of network_text first_text) first_old)
    × ((second_new ≡ second_ledger_after (lines network_text) (plan_of network_text first_text) (plan_of network_text second_text) (length first_old) second_old)
    × (ComparisonPromises (lines network_text) (plan_of network_text first_text) (plan_of network_text second_text) (length first_old) (length second_old) answer
    × PaddingIgnored network_text (λ padded_network. PaddingIgnored first_text (λ padded_first. PaddingIgnored second_text (λ padded_second.
    ComparisonGot padded_network padded_first padded_second first_old second_old answer first_new second_new))))))
got-promised {network_text} {first_text} {second_text} got = (
  got.answered,
  (
    got.first_rows,
    (
      got.second-rows,
      (
        got.promised,
        λ padded_network n padded_first f padded_second s.
            let net = same_lines network_text padded_network n in
            let one = same_lines first_text padded_first f in
            let other = same_lines second_text padded_second s in
            record {
              answered = got.answered ∙ rw (net, one, other);
              first_rows = got.first_rows ∙ rw (net, one);
              second-rows = got.second-rows ∙ rw (net, one, other);
              promised = rw (← net, ← one, ← other) got.promised;
            },
      ),
    ),
  ),
)
