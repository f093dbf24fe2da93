-- What literal words ask for.
use Rattle.std.proofs.Common.{◌≡◌, Bool, true, false, Option, Some, None, refl, sym, ◌∙◌, ap}
use Rattle.std.proofs.Common.{if◌then◌else◌}
use Rattle.std.specs.Prelude.{codes}
use Rattle.std.specs.Borrow.{Bor}
use Rattle.clap.specs.Words.{Text}
use Rattle.telegate.specs.CommandLine.{text_of}
use Rattle.telegate.specs.Examples.{Agree}

-- a word that is given, read from its row
word_is : (text : Text) (given : Option Text) (word : Text) → given ≡ Some text
    → Agree (given ≡ Some word) (word ≡ text)
word_is text given word is =
    record {
      there = λ also. let e : Some word ≡ Some text = sym also ∙ is in cc;
      back = λ same. is ∙ ap Some (sym same);
    }

-- how a flag stands in its row
abbrev pub flag_text : Bool → Text
flag_text given = if given then codes "true" else codes "false"

-- a flag is this, by how it stands in its row
abbrev pub IsFlagOf : Option Text → Bool → Type 0
IsFlagOf given flag = (given ≡ None → flag ≡ false) × (given ≡ Some (codes "true") → flag ≡ true)
    × (given ≡ Some (codes "false") → flag ≡ false)

flag_is : (is_given : Bool) (given : Option Text) (flag : Bool) → given ≡ Some (flag_text is_given)
    → Agree (IsFlagOf given flag) (flag ≡ is_given)
flag_is true given flag is = record {
  there = λ h. h.1 is;
  back = λ same. (
    λ none. let no : None ≡ Some (codes "true") = sym none ∙ is in absurd (cc),
    λ on. same,
    λ off. let no : Some (codes "false") ≡ Some (codes "true") = sym off ∙ is in absurd (cc),
  );
}
flag_is false given flag is = record {
  there = λ h. h.2 is;
  back = λ same. (
    λ none. let no : None ≡ Some (codes "false") = sym none ∙ is in absurd (cc),
    λ on. let no : Some (codes "true") ≡ Some (codes "false") = sym on ∙ is in absurd (cc),
    λ off. same,
  );
}

pub two_are : (name first second : Text) (one_given other_given : Option Text)
    (one other : Bor Text)
    → one_given ≡ Some first → other_given ≡ Some second
    → Agree ((name ≡ name) × (one_given ≡ Some one.now) × (other_given ≡ Some other.now))
    ((one.now ≡ first) × (other.now ≡ second))
two_are name first second one_given other_given one other a b = record {
  there =
      λ h. (
        (word_is first one_given one.now a).there h.1,
        (word_is second other_given other.now b).there h.2,
      );
  back = λ same. (
    refl,
    (word_is first one_given one.now a).back same.0,
    (word_is second other_given other.now b).back same.1,
  );
}

-- a word, one that may be left out, and two flags
pub check_is : (config : Text) (site : Option Text) (live explain : Bool) (x y u v : Option Text)
    (c : Bor Text) (s : Option (Bor Text)) (l e : Bool)
    → x ≡ Some config → y ≡ site → u ≡ Some (flag_text live) → v ≡ Some (flag_text explain)
    → Agree ((codes "check" ≡ codes "check") × (x ≡ Some c.now) × (text_of s ≡ y) × IsFlagOf u l
    × IsFlagOf v e)
    ((c.now ≡ config) × (text_of s ≡ site) × (l ≡ live) × (e ≡ explain))
check_is config site live explain x y u v c s l e a f b d = record {
  there = λ h. (
    (word_is config x c.now a).there h.1,
    h.2 ∙ f,
    (flag_is live u l b).there h.3,
    (flag_is explain v e d).there h.4,
  );
  back = λ same. (
    refl,
    (word_is config x c.now a).back same.0,
    same.1 ∙ sym f,
    (flag_is live u l b).back same.2,
    (flag_is explain v e d).back same.3,
  );
}

-- two words and four flags
pub replay_is : (config trace : Text) (left counts words color : Bool) (x y u v p q : Option Text)
    (c t : Bor Text)
    (l n w o : Bool) → x ≡ Some config → y ≡ Some trace → u ≡ Some (flag_text left)
    → v ≡ Some (flag_text counts)
    → p ≡ Some (flag_text words) → q ≡ Some (flag_text color)
    → Agree ((codes "replay" ≡ codes "replay") × (x ≡ Some c.now) × (y ≡ Some t.now) × IsFlagOf u l
    × IsFlagOf v n
    × IsFlagOf p w × IsFlagOf q o)
    ((c.now ≡ config) × (t.now ≡ trace) × (l ≡ left) × (n ≡ counts) × (w ≡ words) × (o ≡ color))
replay_is config trace left counts words color x y u v p q c t l n w o a b d e f g = record {
  there = λ h. (
    (word_is config x c.now a).there h.1,
    (word_is trace y t.now b).there h.2,
    (flag_is left u l d).there h.3,
    (flag_is counts v n e).there h.4,
    (flag_is words p w f).there h.5,
    (flag_is color q o g).there h.6,
  );
  back = λ same. (
    refl,
    (word_is config x c.now a).back same.0,
    (word_is trace y t.now b).back same.1,
    (flag_is left u l d).back same.2,
    (flag_is counts v n e).back same.3,
    (flag_is words p w f).back same.4,
    (flag_is color q o g).back same.5,
  );
}

-- two words and a flag
pub stations_are : (config script : Text) (words : Bool) (x y p : Option Text) (c t : Bor Text)
    (w : Bool) → x ≡ Some config → y ≡ Some script → p ≡ Some (flag_text words)
    → Agree ((codes "stations" ≡ codes "stations") × (x ≡ Some c.now) × (y ≡ Some t.now)
    × IsFlagOf p w)
    ((c.now ≡ config) × (t.now ≡ script) × (w ≡ words))
stations_are config script words x y p c t w a b f = record {
  there = λ h. (
    (word_is config x c.now a).there h.1,
    (word_is script y t.now b).there h.2,
    (flag_is words p w f).there h.3,
  );
  back = λ same. (
    refl,
    (word_is config x c.now a).back same.0,
    (word_is script y t.now b).back same.1,
    (flag_is words p w f).back same.2,
  );
}

-- two words and two flags
pub sim_is : (config script : Text) (words color : Bool) (x y p q : Option Text) (c t : Bor Text)
    (w o : Bool)
    → x ≡ Some config → y ≡ Some script → p ≡ Some (flag_text words) → q ≡ Some (flag_text color)
    → Agree ((codes "sim" ≡ codes "sim") × (x ≡ Some c.now) × (y ≡ Some t.now) × IsFlagOf p w
    × IsFlagOf q o)
    ((c.now ≡ config) × (t.now ≡ script) × (w ≡ words) × (o ≡ color))
sim_is config script words color x y p q c t w o a b f g = record {
  there = λ h. (
    (word_is config x c.now a).there h.1,
    (word_is script y t.now b).there h.2,
    (flag_is words p w f).there h.3,
    (flag_is color q o g).there h.4,
  );
  back = λ same. (
    refl,
    (word_is config x c.now a).back same.0,
    (word_is script y t.now b).back same.1,
    (flag_is words p w f).back same.2,
    (flag_is color q o g).back same.3,
  );
}

pub status_is : (place : Text) (json : Bool) (x u : Option Text) (p : Bor Text) (j : Bool)
    → x ≡ Some place → u ≡ Some (flag_text json)
    → Agree ((codes "status" ≡ codes "status") × (x ≡ Some p.now) × IsFlagOf u j) ((p.now ≡ place)
    × (j ≡ json))
status_is place json x u p j a b = record {
  there = λ asked. ((word_is place x p.now a).there asked.1, (flag_is json u j b).there asked.2);
  back = λ same. (refl, (word_is place x p.now a).back same.0, (flag_is json u j b).back same.1);
}

-- a word, one that may be left out, and a flag
pub state_is : (directory : Text) (config : Option Text) (reports : Bool) (x y u : Option Text)
    (d : Bor Text) (c : Option (Bor Text)) (r : Bool) → x ≡ Some directory → y ≡ config
    → u ≡ Some (flag_text reports)
    → Agree ((codes "state" ≡ codes "state") × (x ≡ Some d.now) × (text_of c ≡ y) × IsFlagOf u r)
    ((d.now ≡ directory) × (text_of c ≡ config) × (r ≡ reports))
state_is directory config reports x y u d c r a b f = record {
  there = λ asked. (
    (word_is directory x d.now a).there asked.1,
    asked.2 ∙ b,
    (flag_is reports u r f).there asked.3,
  );
  back = λ same. (
    refl,
    (word_is directory x d.now a).back same.0,
    same.1 ∙ sym b,
    (flag_is reports u r f).back same.2,
  );
}
