-- The lines are asked in their order, and what an unbroken line says is what the next one needs.
use Rattle.std.proofs.Common.{sym, ap, ◌∙◌}
use Rattle.plan.proofs.LineAccepted.{refused_1, refused_2, refused_3, refused_4, refused_5, refused_6, refused_7, passed_accepted}
use Rattle.plan.specs.Refusals.{refusal}
use Rattle.plan.specs.Inner.{Passed2, Passed4}
use Rattle.plan.proofs.check.check.Goals as goal

pub returns-in_default-clause-number : goal.returns-in_default-clause-number
returns-in_default-clause-number c = sym (refused_1 _ c.in_default.ensures)

pub returns-then-wrong_header-clause-number : goal.returns-then-wrong_header-clause-number
returns-then-wrong_header-clause-number c = sym (refused_2 _ c.in-Some.ensures.0 (sym c.if-wrong_header.ensures)) ∙ ap refusal c.in-Some.ensures.1

pub returns-then-wrong_record-clause-number : goal.returns-then-wrong_record-clause-number
returns-then-wrong_record-clause-number c =
    let passed_2 : Passed2 c.in-Some.plan.bytes.now = (c.in-Some.ensures.0, sym c.if-wrong_header.ensures) in
    sym (refused_3 _ passed_2 (sym c.if-wrong_record.ensures)) ∙ ap refusal c.in-Some.ensures.1

pub returns-then-wrong_chain-clause-number : goal.returns-then-wrong_chain-clause-number
returns-then-wrong_chain-clause-number c =
    let passed_2 : Passed2 c.in-Some.plan.bytes.now = (c.in-Some.ensures.0, sym c.if-wrong_header.ensures) in
    sym (refused_4 _ passed_2 (sym c.if-wrong_record.ensures) (sym c.if-wrong_chain.ensures)) ∙ ap refusal c.in-Some.ensures.1

pub returns-then-backward_belt-clause-number : goal.returns-then-backward_belt-clause-number
returns-then-backward_belt-clause-number c =
    let passed_2 : Passed2 c.in-Some.plan.bytes.now = (c.in-Some.ensures.0, sym c.if-wrong_header.ensures) in
    let passed_4 : Passed4 c.in-Some.plan.bytes.now = (passed_2, sym c.if-wrong_record.ensures, sym c.if-wrong_chain.ensures) in
    sym (refused_5 _ passed_4 (sym c.if-backward_belt.ensures)) ∙ ap refusal c.in-Some.ensures.1

pub returns-then-wrong_literal-clause-number : goal.returns-then-wrong_literal-clause-number
returns-then-wrong_literal-clause-number c =
    let passed_2 : Passed2 c.in-Some.plan.bytes.now = (c.in-Some.ensures.0, sym c.if-wrong_header.ensures) in
    let passed_4 : Passed4 c.in-Some.plan.bytes.now = (passed_2, sym c.if-wrong_record.ensures, sym c.if-wrong_chain.ensures) in
    sym (refused_6 _ passed_4 (sym c.if-backward_belt.ensures) (sym c.if-wrong_literal.ensures)) ∙ ap refusal c.in-Some.ensures.1

pub returns-then-many_named-clause-number : goal.returns-then-many_named-clause-number
returns-then-many_named-clause-number c =
    let passed_2 : Passed2 c.in-Some.plan.bytes.now = (c.in-Some.ensures.0, sym c.if-wrong_header.ensures) in
    let passed_4 : Passed4 c.in-Some.plan.bytes.now = (passed_2, sym c.if-wrong_record.ensures, sym c.if-wrong_chain.ensures) in
    sym (refused_7 _ (passed_4, sym c.if-backward_belt.ensures, sym c.if-wrong_literal.ensures) (sym c.if-many_named.ensures)) ∙ ap refusal c.in-Some.ensures.1

pub invariant_of-result : goal.invariant_of-result
invariant_of-result c =
    let passed_2 : Passed2 c.in-Some.plan.bytes.now = (c.in-Some.ensures.0, sym c.if-wrong_header.ensures) in
    let passed_4 : Passed4 c.in-Some.plan.bytes.now = (passed_2, sym c.if-wrong_record.ensures, sym c.if-wrong_chain.ensures) in
    record {
      accepted = record {
        unrefused = passed_accepted _ (passed_4, sym c.if-backward_belt.ensures, sym c.if-wrong_literal.ensures) (sym c.if-many_named.ensures);
      };
    }
