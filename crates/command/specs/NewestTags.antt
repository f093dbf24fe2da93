-- Which time tag a station's answer is passed on with (IEC 60870-5-104, 8; that it is the newest
-- command's, and that sixteen are kept, is this gateway's own profile).
use Rattle.std.specs.Prelude.{◌≡◌, ℕ, ◌<◌, ◌≤◌, ◌⊎◌, false, true, List, [], ◌∷◌, ◌++◌, length}
use Rattle.std.specs.Prelude.{if◌then◌else◌, Some, None}
use Rattle.std.specs.List.{AllByRecursion}
use Rattle.asdu.specs.Asdu.{AsduValue, Info}
use Rattle.asdu.specs.declared.sizes.Sizes.{Sizes}
use Rattle.command.specs.declared.station.StationInfo.{StationInfo}
use Rattle.command.specs.Standard.{operates, tag_if_any, is_object_of}
use Rattle.command.specs.History.{History, next_for, first_sendings, mirror_tag}
use Rattle.command.specs.Calls.{Call, PutOnLine, Cut, run}
use Rattle.command.specs.Numbers.{Numbers, command_with, Tag, seven, one_octet_tagged}
use Rattle.command.specs.Numbers.{set_point_tagged}

-- types 58 to 62 come with a tag, and no others, whatever the addresses and the elements are
pub record TagsAreRead : Type 0 where
  pub single : (t : Tag) (n : Numbers) (x : ℕ) →
      tag_if_any (command_with 58 n (one_octet_tagged t x)) ≡ Some (seven t)
  pub double : (t : Tag) (n : Numbers) (x : ℕ) →
      tag_if_any (command_with 59 n (one_octet_tagged t x)) ≡ Some (seven t)
  pub step : (t : Tag) (n : Numbers) (x : ℕ) →
      tag_if_any (command_with 60 n (one_octet_tagged t x)) ≡ Some (seven t)
  pub normalised : (t : Tag) (n : Numbers) (a b x : ℕ) →
      tag_if_any (command_with 61 n (set_point_tagged t a b x)) ≡ Some (seven t)
  pub scaled : (t : Tag) (n : Numbers) (a b x : ℕ) →
      tag_if_any (command_with 62 n (set_point_tagged t a b x)) ≡ Some (seven t)
  pub untagged : (kind : ℕ) (rest : List ℕ) → ((58 ≤ kind) × (kind ≤ 62) → ⊥) →
      tag_if_any (kind ∷ rest) ≡ None

-- none of these commands has the type and the addresses of this object
abbrev pub NoneHas : AsduValue → Info → List (List ℕ) → Type 0
NoneHas v i xss = AllByRecursion (λ xs. is_object_of xs v i ≡ false) xss

module _ (sizes : Sizes) (stations : List StationInfo) (select_ms max_age_ms : ℕ) where
  -- An answer with one object bears the tag of the command of its type and addresses that went out
  -- last, if fewer than sixteen went out since. It bears none if there is no such command. One that
  -- hasn't one object bears none.
  pub record NewestIsBorne (h : History) : Type 0 where
    pub newest : (v : AsduValue) (i : Info) (since earlier : List (List ℕ)) (xs : List ℕ) →
        v.infos ≡ i ∷ [] →
        first_sendings sizes stations select_ms max_age_ms h ≡ since ++ xs ∷ earlier →
        length since < 16 → NoneHas v i since → is_object_of xs v i ≡ true →
        mirror_tag sizes stations select_ms max_age_ms v v.infos h ≡ tag_if_any xs
    pub no_such : (v : AsduValue) (i : Info) (since earlier : List (List ℕ)) →
        v.infos ≡ i ∷ [] →
        first_sendings sizes stations select_ms max_age_ms h ≡ since ++ earlier →
        (16 ≤ length since) ⊎ (earlier ≡ []) → NoneHas v i since →
        mirror_tag sizes stations select_ms max_age_ms v v.infos h ≡ None
    pub no_object : (v : AsduValue) → v.infos ≡ [] →
        mirror_tag sizes stations select_ms max_age_ms v v.infos h ≡ None
    pub several : (v : AsduValue) (i j : Info) (more : List Info) → v.infos ≡ i ∷ j ∷ more →
        mirror_tag sizes stations select_ms max_age_ms v v.infos h ≡ None

  abbrev sendings_after : List Call → List (List ℕ)
  sendings_after calls =
      first_sendings sizes stations select_ms max_age_ms
      (run stations sizes select_ms max_age_ms calls).history

  -- A command that goes out is the newest, as it came, if it operates an object. Nothing else
  -- changes what went out, but for the end of the connection.
  pub record SendingsAreNoted (calls : List Call) : Type 0 where
    pub sent : (k : ℕ) (xs : List ℕ) →
        next_for sizes stations select_ms max_age_ms k
        (run stations sizes select_ms max_age_ms calls).history ≡ Some xs →
        sendings_after (PutOnLine k ∷ calls)
        ≡ (if operates xs then xs ∷ sendings_after calls else sendings_after calls)
    pub stays : (call : Call) → (call ≡ Cut → ⊥) → ((k : ℕ) → call ≡ PutOnLine k → ⊥) →
        sendings_after (call ∷ calls) ≡ sendings_after calls
    pub ends : sendings_after (Cut ∷ calls) ≡ []
