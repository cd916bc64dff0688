-- The claims on archive forms (specs/Claims.antt), proved. The archive form of an accepted plan is the records of its content, which fits; so its plan is
-- known, and has the same content.
--
--   form_claim, equal_claim, twice_claim, query_claim
--                   what an archive form means, when two are equal, writing twice, and queries. The others are proved in WriteAnswer and RenameSearch
--   claims          all of them
--
-- Assumes nothing.
use mathlib.Core.Path.{◌≡◌, sym, ◌∙◌, ap}
use mathlib.Core.List.{List}
use Prim.Native.Nat.{ℕ, suc, ◌*◌}
use Rattle.plan.specs.Bounds.{record_bytes}
use Rattle.plan.specs.Plan.{plan_of}
use Rattle.plan.specs.Reading.{Accepted, Bytes}
use Rattle.plan.proofs.Reading.{records_few}
use Rattle.archive.specs.Content.{Content, content_of}
use Rattle.archive.specs.Form.{bytes_of, records_of}
use Rattle.archive.specs.Answers.{archive_in}
use Rattle.archive.specs.Claims.{FormClaim, EqualClaim, TwiceClaim, QueryClaim, Claims}
use Rattle.archive.proofs.ContentFits.{plan_numbered}
use Rattle.archive.proofs.ContentPlaces.{plan_shifted, old}
use Rattle.archive.proofs.ContentSize.{size_again}
use Rattle.archive.proofs.ContentOfPlan.{archived_plan, restored_plan, old_indices_rise, new_of_old, new_indices_rise, fits, content_of_plan}
use Rattle.archive.proofs.RecordBytes.{length_bytes, bytes_are_bytes}
use Rattle.archive.proofs.FormRecords.{low_records}
use Rattle.archive.proofs.FormPlan.{read_back}
use Rattle.archive.proofs.FormAccepted.{form_accepted}
use Rattle.archive.proofs.RenameSearch.{renaming_claim}
use Rattle.archive.proofs.Query.{query_archived}
use Rattle.archive.proofs.WriteAnswer.{refused_claim, limits_claim}

-- the plan of an archive form
plan_archived : (b : List ℕ) → Bytes b → Accepted b → plan_of (archive_in b) ≡ plan_numbered (suc (plan_of b).junctions) (content_of (plan_of b))
plan_archived b bytes ok = read_back (content_of (plan_of b)) (fits b bytes ok)

-- it has the content of the plan
content_archived : (b : List ℕ) → Bytes b → Accepted b → content_of (plan_of (archive_in b)) ≡ content_of (plan_of b)
content_archived b bytes ok = ap content_of (plan_archived b bytes ok) ∙ content_of_plan (suc (plan_of b).junctions) b bytes ok

abbrev written : Content → List ℕ
written c = bytes_of (records_of c)

pub form_claim : FormClaim
form_claim b bytes ok =
    let c = content_of (plan_of b) in
    let is-fit = fits b bytes ok in
    record {
      accepted = (form_accepted is-fit).unrefused;
      bytes = bytes_are_bytes (records_of c) (low_records c is-fit);
      size = length_bytes (records_of c) ∙ ap (λ (n : ℕ). record_bytes * n) (size_again ok) ∙ sym (records_few ok).1;
      plan = plan_archived b bytes ok ∙ archived_plan ok;
      rises = new_indices_rise ok;
    }

pub equal_claim : EqualClaim
equal_claim b c b-bytes b-ok c-bytes c-ok = (
  λ e. sym (content_archived b b-bytes b-ok) ∙ ap (λ (x : List ℕ). content_of (plan_of x)) e ∙ content_archived c c-bytes c-ok,
  ap written,
)

pub twice_claim : TwiceClaim
twice_claim b bytes ok = ap written (content_archived b bytes ok)

pub query_claim : QueryClaim
query_claim b bytes ok q room =
    let p = plan_of b in
    let c = content_of p in
    query_archived b ok (form_accepted (fits b bytes ok)) (old p) (old_indices_rise ok) (restored_plan ok)
    (plan_archived b bytes ok ∙ sym (plan_shifted (suc p.junctions) c)) (new_of_old ok) q room

pub claims : Claims
claims = record {
  refused = refused_claim;
  limits = limits_claim;
  form = form_claim;
  equal = equal_claim;
  twice = twice_claim;
  query = query_claim;
  renaming = renaming_claim;
}
