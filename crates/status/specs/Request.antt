-- What a visitor asks (RFC 9112; the paths are this gateway's own).
use Rattle.std.specs.Prelude.{◌≡◌, ℕ, ◌==◌, bytes_eq, List, Bool, true, false, Option, Some, None}
use Rattle.std.specs.Prelude.{codes, if◌then◌else◌, position, take}
use Rattle.httparse.specs.Grammar.{RequestHead, ReadsRequest, HasNoRequest, NeverHasRequest}
use Rattle.httparse.specs.Spans.{RequestExceeds}
use Rattle.status.specs.declared.request.View.{View}
use Rattle.status.specs.declared.request.View.TheVariants.{Person, Json, Metrics, Table}
use Rattle.status.specs.declared.request.Inquiry.{Inquiry}
use Rattle.status.specs.declared.request.Inquiry.TheVariants.{Nothing, Page, Unknown, Forbidden}
use Rattle.status.specs.declared.request.Inquiry.TheVariants.{NoRequest, TooLong}

-- the path of a target: what stands before its query, which begins with a question mark (63)
-- (RFC 3986, 3.3)
abbrev pub cut_at : Option ℕ → List ℕ → List ℕ
cut_at (Some end) target = take end target
cut_at None target = target

abbrev pub path_of : List ℕ → List ℕ
path_of target = cut_at (position (λ c. c == 63) target) target

abbrev pub view_of : List ℕ → Option View
view_of path =
    if bytes_eq path (codes "/") then Some Person
    else if bytes_eq path (codes "/status.json") then Some Json
    else if bytes_eq path (codes "/metrics") then Some Metrics
    else if bytes_eq path (codes "/status.txt") then Some Table else None

abbrev pub page_or : Option View → Bool → Inquiry
page_or (Some view) has_body = Page view has_body
page_or None has_body = Unknown has_body

abbrev pub asked_at : List ℕ → (has_body : Bool) → Inquiry
asked_at target has_body = page_or (view_of (path_of target)) has_body

-- what is asked by a method and a target (RFC 9110, 9.3)
abbrev pub asked_by : (method target : List ℕ) → Inquiry
asked_by method target =
    if bytes_eq method (codes "GET") then asked_at target true
    else if bytes_eq method (codes "HEAD") then asked_at target false else Forbidden

-- octets that begin with the head of a request which asks that
abbrev pub IsHeadOf : List ℕ → Inquiry → Type 0
IsHeadOf octets asked =
    (head : RequestHead) × (rest : List ℕ) × ReadsRequest octets head rest
    × (asked ≡ asked_by head.method head.target)

-- what octets ask
abbrev pub Asks : List ℕ → Inquiry → Type 0
Asks octets Nothing = HasNoRequest octets
Asks octets NoRequest = NeverHasRequest octets
Asks octets TooLong = RequestExceeds 64 octets
Asks octets (Page view has_body) = IsHeadOf octets (Page view has_body)
Asks octets (Unknown has_body) = IsHeadOf octets (Unknown has_body)
Asks octets Forbidden = IsHeadOf octets Forbidden
