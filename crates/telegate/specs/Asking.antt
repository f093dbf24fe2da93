-- What is asked of a live run, and what is made of its answer (this gateway's own profile).
use Rattle.std.specs.Prelude.{◌≡◌, ◌⊎◌, ◌≤◌, ℕ, Bool, true, false, List, length, Option, codes}
use Rattle.std.specs.Io.KnownBytes.{Appends, Keeps}
use Rattle.clap.specs.Words.{Text}
use Rattle.httparse.specs.Grammar.{ReadsResponse, ResponseHead, status_code}
use Rattle.sim.specs.Runs.{IsBegun}
use Rattle.status.specs.Reply.{exit_status}

-- a request for the table, and one for the page that programs read (RFC 9112, 3; HTTP/1.0 asks for
-- no more than the path)
abbrev pub table_request : List ℕ
table_request = codes "GET /status.txt HTTP/1.0\r\n\r\n"

abbrev pub json_request : List ℕ
json_request = codes "GET /status.json HTTP/1.0\r\n\r\n"

-- an answer shows a page (status 200), which is this
pub record IsPage (answer body : List ℕ) : Type 0 where
  pub head : ResponseHead
  pub read : ReadsResponse answer head body
  pub shown : status_code head ≡ 200

-- this page was answered at a place to a request
pub record IsPageAt (answered : Text → List ℕ → List ℕ → Type 0) (place : Text)
    (request body : List ℕ) : Type 0 where
  pub answer : List ℕ
  pub is : answered place request answer
  pub page : IsPage answer body

-- the answer shows none
pub record IsNoPageAt (answered : Text → List ℕ → List ℕ → Type 0) (place : Text)
    (request : List ℕ) : Type 0 where
  pub answer : List ℕ
  pub is : answered place request answer
  pub none : (head : ResponseHead) (body : List ℕ) → ReadsResponse answer head body
      → length head.fields ≤ 64 → status_code head ≡ 200 → ⊥

-- nobody answers, 3, or memory was refused, 4
abbrev pub IsUnanswered : (silent : Text → Type 0) → (place : Text) → (exit : ℕ) → Type 0
IsUnanswered silent place exit = (silent place × (exit ≡ 3)) ⊎ (exit ≡ 4)

-- nothing was printed, since there is no page: 3 says that nothing is known
abbrev pub HasNoPage : (answered : Text → List ℕ → List ℕ → Type 0) → (silent : Text → Type 0)
    → (place : Text) → (request : List ℕ) → (old new : Option (List ℕ)) → (exit : ℕ) → Type 0
HasNoPage answered silent place request old new exit =
    (IsUnanswered silent place exit ⊎ (IsNoPageAt answered place request × (exit ≡ 3)))
    × Keeps old new

-- a page was printed, with this exit status, or a beginning of it if the output failed
abbrev pub IsShown : (body : List ℕ) → (status : ℕ) → (old new : Option (List ℕ)) → (exit : ℕ)
    → Type 0
IsShown body status old new exit =
    (Appends old new body × (exit ≡ status)) ⊎ (IsBegun old new body × (exit ≡ 3))

-- the page that programs read was
pub record HasShownPage (answered : Text → List ℕ → List ℕ → Type 0) (place : Text) (status : ℕ)
    (old new : Option (List ℕ)) (exit : ℕ) : Type 0 where
  pub body : List ℕ
  pub page : IsPageAt answered place json_request body
  pub shown : IsShown body status old new exit

abbrev pub ShowsPage : (answered : Text → List ℕ → List ℕ → Type 0) → (silent : Text → Type 0)
    → (place : Text) → (status : ℕ) → (old new : Option (List ℕ)) → (exit : ℕ) → Type 0
ShowsPage answered silent place status old new exit =
    HasShownPage answered place status old new exit
    ⊎ HasNoPage answered silent place json_request old new exit

-- what is printed if the table has come: that, or the other page
abbrev pub ShowsBy : (answered : Text → List ℕ → List ℕ → Type 0) → (silent : Text → Type 0)
    → (place : Text) → (json : Bool) → (table : List ℕ) → (old new : Option (List ℕ))
    → (exit : ℕ) → Type 0
ShowsBy answered silent place false table old new exit =
    IsShown table (exit_status table) old new exit
ShowsBy answered silent place true table old new exit =
    ShowsPage answered silent place (exit_status table) old new exit

-- the exit status is that of the table, as a monitor understands it
pub record HasShown (answered : Text → List ℕ → List ℕ → Type 0) (silent : Text → Type 0)
    (place : Text) (json : Bool) (old new : Option (List ℕ)) (exit : ℕ) : Type 0 where
  pub table : List ℕ
  pub page : IsPageAt answered place table_request table
  pub shown : ShowsBy answered silent place json table old new exit

abbrev pub ShowsStatus : (answered : Text → List ℕ → List ℕ → Type 0) → (silent : Text → Type 0)
    → (place : Text) → (json : Bool) → (old new : Option (List ℕ)) → (exit : ℕ) → Type 0
ShowsStatus answered silent place json old new exit =
    HasShown answered silent place json old new exit
    ⊎ HasNoPage answered silent place table_request old new exit
