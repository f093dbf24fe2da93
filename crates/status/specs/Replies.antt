-- Words of the laws of answers, of ages and of what a row begins with (this gateway's own profile).
use Rattle.std.specs.Prelude.{◌≡◌, ℕ, List, ◌++◌, Some, codes, length}
use Rattle.std.specs.Prelude.{true, false}
use Rattle.status.specs.Answer.{body_of, head_before, head_text}
use Rattle.status.specs.Request.{asked_by}
use Rattle.status.specs.declared.request.Inquiry.{Inquiry}
use Rattle.status.specs.declared.request.Inquiry.TheVariants.{Page}
use Rattle.status.specs.declared.request.View.{View}
use Rattle.status.specs.declared.snapshot.Snapshot.{Snapshot}

-- What is asked is answered with this status, this kind of text, this field of methods and this
-- body.
pub record IsAnsweredWith (asked : Inquiry) (s : Snapshot) (status kind allow body : List ℕ)
    : Type 0 where
  pub head : head_before asked (Some body) ≡ head_text status kind allow (length body)
  pub shown : body_of asked s ≡ body

-- This path has this page, whatever query stands behind it: GET shows it, and HEAD its head alone.
pub record IsPathOf (path : List ℕ) (v : View) : Type 0 where
  pub get : asked_by (codes "GET") path ≡ Page v true
  pub head : asked_by (codes "HEAD") path ≡ Page v false
  pub query : (query : List ℕ) → asked_by (codes "GET") (path ++ (codes "?" ++ query))
      ≡ Page v true
  pub head_query : (query : List ℕ) → asked_by (codes "HEAD") (path ++ (codes "?" ++ query))
      ≡ Page v false

-- plain text
abbrev pub plain : List ℕ
plain = codes "text/plain; charset=utf-8"
