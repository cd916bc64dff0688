use Rattle.std.proofs.Common.{◌≡◌, ◌∙◌, ◌+◌, ℕ, ap, sym, rules}
use borrow.Author.Tests.{tests}
use Rattle.plan.specs.declared.read.Literal.{Literal}
use Rattle.plan.specs.Reading.{next_literal}
use Rattle.archive.specs.Form.{chain_start, literal_record}
use Rattle.archive.specs.Inner.{by_place, literals_in}
use Rattle.archive.proofs.WriteRules.{first, literal_names, literals_link, option_link, record_at, belt_named, mode_named}
use Rattle.archive.proofs.indices.Renumbered.put_literal.Goals as goal
use Rattle.archive.proofs.indices.Renumbered.put_literal.Goals.{After-map_or-next}

-- the link to the next literal
link : (c : After-map_or-next)
    → c.map_or-next.result ≡ chain_start (c.args.i + 1) (literals_in c.args.self.now.plan.bytes.now (next_literal c.args.self.now.plan.bytes.now c.args.literal.0))
link c =
    literals_link c.args.self.now.plan.accepted c.next_literal.result c.next_literal.ensures.literal (c.args.i + 1) c.map_or-next.result
    (option_link c.next_literal.result _ _ _ c.map_or-next.ensures (λ x h. search (rules, tests)))
    ∙ ap (λ (k : ℕ). chain_start (c.args.i + 1) (literals_in c.args.self.now.plan.bytes.now k)) c.next_literal.ensures.link

pub new_index-requires : goal.new_index-requires
new_index-requires c =
    literal_names c.args.self.now.plan.accepted c.args.literal.0 c.requires.literal c.in-OfBelt.belt c.in-OfBelt.wanted (sym c.literal.ensures ∙ c.in-OfBelt.is)

pub returns-in-OfBelt : goal.returns-in-OfBelt
returns-in-OfBelt c =
    let b = c.args.self.now.plan.bytes.now in
    record_at c.args.out.now
    (belt_named b c.in-OfBelt.wanted (link (goal.at.returns-in-OfBelt c).After-map_or-next) c.from.ensures c.in-OfBelt.belt c.new_index.ensures
    ∙ ap (λ (x : Literal). literal_record (first b) (by_place b x) (chain_start (c.args.i + 1) (literals_in b (next_literal b c.args.literal.0)))) (sym c.in-OfBelt.is ∙ c.literal.ensures))
    c.from-at.ensures c.put_record.ensures

pub returns-in-OfMode : goal.returns-in-OfMode
returns-in-OfMode c =
    let b = c.args.self.now.plan.bytes.now in
    record_at c.args.out.now
    (mode_named b c.in-OfMode.wanted (link (goal.at.returns-in-OfMode c).After-map_or-next) c.from-in-OfMode.ensures c.in-OfMode.mode
    ∙ ap (λ (x : Literal). literal_record (first b) (by_place b x) (chain_start (c.args.i + 1) (literals_in b (next_literal b c.args.literal.0)))) (sym c.in-OfMode.is ∙ c.literal.ensures))
    c.from-at.ensures c.put_record-in-OfMode.ensures
