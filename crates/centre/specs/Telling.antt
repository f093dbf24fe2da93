-- What passes on the connection, a line an APDU (texts of this gateway's own profile).
use Rattle.std.specs.Prelude.{ℕ, codes, List, [], ◌++◌, Option, Some, None}
use Rattle.std.specs.Fmt.{decimal}
use Rattle.apci.specs.declared.apdu.Apdu.{Apdu}
use Rattle.apci.specs.declared.apdu.Apdu.TheVariants.{I, S, U}
use Rattle.words.specs.Connections.{apdu_words}
use Rattle.centre.specs.Endings.{outcome_words, status_of}
use Rattle.centre.specs.Errands.{answer_in}
use Rattle.centre.specs.declared.errand.Answer.{Answer}
use Rattle.centre.specs.declared.errand.Outcome.{Outcome}
use Rattle.centre.specs.declared.telling.Style.{Style}
use Rattle.centre.specs.declared.telling.Style.TheVariants as style
use Rattle.centre.specs.declared.telling.Way.{Way}
use Rattle.centre.specs.declared.telling.Way.TheVariants.{FromCentre, FromGateway}

abbrev pub way_words : Way → List ℕ
way_words FromCentre = codes "control centre > gateway"
way_words FromGateway = codes "gateway > control centre"

-- the moment in ms, who sends it, and the APDU in the words of the standard
unfoldable pub word_line : Way → (now : ℕ) → Apdu → List ℕ
word_line way now a =
    decimal now ++ (codes " " ++ (way_words way ++ (codes "  " ++ (apdu_words a ++ codes "\n"))))

-- of an I frame type, cause octet, common address and object address
abbrev pub answer_json : Option Answer → List ℕ
answer_json None = []
answer_json (Some a) =
    codes ",\"type\":" ++ (decimal a.kind ++ (codes ",\"cause\":" ++ (decimal a.cause
    ++ (codes ",\"ca\":" ++ (decimal a.ca ++ (codes ",\"ioa\":" ++ decimal a.ioa))))))

unfoldable pub numbers_json : Apdu → List ℕ
numbers_json (I ns nr asdu) = answer_json (answer_in asdu.items)
numbers_json (S nr) = []
numbers_json (U f) = []

unfoldable pub way_json : Way → (now : ℕ) → List ℕ
way_json way now =
    codes "{\"ms\":" ++ (decimal now ++ (codes ",\"way\":\"" ++ (way_words way ++ codes "\"")))

unfoldable pub words_json : Apdu → List ℕ
words_json a = codes ",\"words\":\"" ++ (apdu_words a ++ codes "\"}\n")

unfoldable pub json_line : Way → (now : ℕ) → Apdu → List ℕ
json_line way now a = way_json way now ++ (numbers_json a ++ words_json a)

abbrev pub told : Style → Way → (now : ℕ) → Apdu → List ℕ
told style.Words way now a = word_line way now a
told style.Json way now a = json_line way now a

-- ---- Behind all: who gave nothing, and what became of the errand

abbrev pub silent_line : Style → (ca : ℕ) → List ℕ
silent_line style.Words ca = codes "no reply from common address " ++ (decimal ca ++ codes "\n")
silent_line style.Json ca = codes "{\"silent\":" ++ (decimal ca ++ codes "}\n")

unfoldable pub end_words : Outcome → List ℕ
end_words outcome = outcome_words outcome ++ codes "\n"

-- the exit status, too
unfoldable pub end_json : Outcome → List ℕ
end_json outcome =
    codes "{\"status\":" ++ (decimal (status_of outcome) ++ (codes ",\"end\":\""
    ++ (outcome_words outcome ++ codes "\"}\n")))

abbrev pub end_line : Style → Outcome → List ℕ
end_line style.Words outcome = end_words outcome
end_line style.Json outcome = end_json outcome
