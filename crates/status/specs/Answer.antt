-- What a visitor is answered (RFC 9110, RFC 9112).
use Rattle.std.specs.Prelude.{ℕ, List, [], ◌∷◌, length, Bool, true, Option, Some, None, codes}
use Rattle.std.specs.Prelude.{if◌then◌else◌}
use Rattle.std.specs.Fmt.{decimal}
use Rattle.status.specs.Html.{html_of}
use Rattle.status.specs.Json.{json_of}
use Rattle.status.specs.Metrics.{metrics_of}
use Rattle.status.specs.TextPage.{Sheet, empty, put}
use Rattle.status.specs.Table.{table_of}
use Rattle.status.specs.Words.{joined}
use Rattle.status.specs.declared.request.Inquiry.{Inquiry}
use Rattle.status.specs.declared.request.Inquiry.TheVariants.{Nothing, Page, Unknown, Forbidden}
use Rattle.status.specs.declared.request.Inquiry.TheVariants.{NoRequest, TooLong}
use Rattle.status.specs.declared.request.View.{View}
use Rattle.status.specs.declared.request.View.TheVariants.{Person, Json, Metrics, Table}
use Rattle.status.specs.declared.snapshot.Snapshot.{Snapshot}

-- the status of an answer (RFC 9110, 15)
abbrev pub status_of : Inquiry → List ℕ
status_of (Page view has_body) = codes "200 OK"
status_of (Unknown has_body) = codes "404 Not Found"
status_of Forbidden = codes "405 Method Not Allowed"
status_of TooLong = codes "431 Request Header Fields Too Large"
status_of Nothing = codes "400 Bad Request"
status_of NoRequest = codes "400 Bad Request"

-- what kind of text a page is (RFC 9110, 8.3)
abbrev pub kind_of_view : View → List ℕ
kind_of_view Person = codes "text/html; charset=utf-8"
kind_of_view Json = codes "application/json"
kind_of_view Metrics = codes "text/plain; version=0.0.4; charset=utf-8"
kind_of_view Table = codes "text/plain; charset=utf-8"

abbrev pub kind_of : Inquiry → List ℕ
kind_of (Page view has_body) = kind_of_view view
kind_of (Unknown has_body) = codes "text/plain; charset=utf-8"
kind_of Forbidden = codes "text/plain; charset=utf-8"
kind_of TooLong = codes "text/plain; charset=utf-8"
kind_of Nothing = codes "text/plain; charset=utf-8"
kind_of NoRequest = codes "text/plain; charset=utf-8"

-- the field that names the methods which may be used (RFC 9110, 10.2.1), if others were
abbrev pub allow_of : Inquiry → List ℕ
allow_of (Page view has_body) = []
allow_of (Unknown has_body) = []
allow_of Forbidden = codes "Allow: GET, HEAD\r\n"
allow_of TooLong = []
allow_of Nothing = []
allow_of NoRequest = []

-- whether the body goes out (RFC 9110, 9.3.2)
abbrev pub has_body : Inquiry → Bool
has_body (Page view goes_out) = goes_out
has_body (Unknown goes_out) = goes_out
has_body Forbidden = true
has_body TooLong = true
has_body Nothing = true
has_body NoRequest = true

abbrev pub page_of : View → Snapshot → List ℕ
page_of Person s = html_of s
page_of Json s = json_of s
page_of Metrics s = metrics_of s
page_of Table s = table_of s

-- the page that is asked for, if one is
abbrev pub view_of : Inquiry → Option View
view_of (Page view goes_out) = Some view
view_of (Unknown goes_out) = None
view_of Forbidden = None
view_of TooLong = None
view_of Nothing = None
view_of NoRequest = None

-- the body of an answer: the page, or its status in words
abbrev pub body_or : Option View → Inquiry → Snapshot → List ℕ
body_or (Some view) asked s = page_of view s
body_or None asked s = joined (status_of asked ∷ codes "\n" ∷ [])

abbrev pub body_of : Inquiry → Snapshot → List ℕ
body_of asked s = body_or (view_of asked) asked s

-- the status line and the fields
abbrev pub head_text : (status kind allow : List ℕ) → (len : ℕ) → List ℕ
head_text status kind allow len = joined (
    codes "HTTP/1.1 " ∷ status ∷ codes "\r\nContent-Type: " ∷ kind
    ∷ codes "\r\nContent-Length: " ∷ decimal len
    ∷ codes "\r\nConnection: close\r\nCache-Control: no-store\r\n"
    ∷ codes "X-Content-Type-Options: nosniff\r\nContent-Security-Policy: "
    ∷ codes "default-src 'none'; style-src 'unsafe-inline'\r\n" ∷ allow ∷ codes "\r\n" ∷ [])

-- the head before a body; none is a body that found no room
abbrev pub head_before : Inquiry → Option (List ℕ) → List ℕ
head_before asked (Some text) =
    head_text (status_of asked) (kind_of asked) (allow_of asked) (length text)
head_before asked None =
    head_text (codes "500 Internal Server Error") (codes "text/plain; charset=utf-8") [] 0

-- a body in its room
abbrev pub body_in : (room : ℕ) → Inquiry → Snapshot → Sheet
body_in room asked s = put (body_of asked s) (empty room)

-- the head that goes out
abbrev pub head_of : (head_room body_room : ℕ) → Inquiry → Snapshot → Sheet
head_of head_room body_room asked s =
    put (head_before asked (body_in body_room asked s).text) (empty head_room)

-- the body that goes out
abbrev pub body_sent : (room : ℕ) → Inquiry → Snapshot → Sheet
body_sent room asked s = if has_body asked then body_in room asked s else empty room
