-- What is found in a directory, for who looks at it.
use Rattle.std.proofs.Common.{◌≡◌, Bool, true, false, ℕ, ◌+◌, List, length, Option, Some, None}
use Rattle.std.proofs.Common.{refl, inl, inr, ◌∙◌}
use Rattle.std.specs.Prelude.{◌⊎◌}
use Rattle.std.proofs.Common.{sym, subst}
use Rattle.std.specs.Option.{ForSome, is_some}
use Rattle.gateway.specs.Log.{Log}
use Rattle.segments.specs.Starts.{ArePlaced, HasNoNewer, IsBacked, IsFoundIn, IsNewest}
use Rattle.segments.specs.declared.start.FoundHead.{FoundHead}
use Rattle.segments.specs.declared.start.Side.{Side}
use Rattle.state.specs.Beginnings.{IsReadWhole, has_past, is_trusted}
use Rattle.state.specs.Sights.{BeginsSo, IsDistrusted, IsSeen, IsSight}
use Rattle.state.specs.Unread.{HasState, IsUnread}
use Rattle.state.specs.declared.looking.Seen.{Seen}
use Rattle.state.specs.declared.start.Beginning.{Beginning}
use Rattle.state.specs.declared.start.Beginning.TheVariants as beginnings
use Rattle.state.proofs.UnreadLemmas.{lines_read, lines_rotten, unread_found}

-- with a past
begins_so : (b : Beginning) (goes_on is_stale : Bool) (newest other : List ℕ) → has_past b ≡ true
    → is_trusted b ≡ goes_on
    → IsNewest newest other → (goes_on ≡ true → HasNoNewer newest other)
    → (goes_on ≡ true → IsReadWhole newest) → (goes_on ≡ true → is_stale ≡ false)
    → (goes_on ≡ false → IsDistrusted is_stale newest other)
    → BeginsSo b is_stale newest other
begins_so beginnings.Anew goes_on is_stale newest other past is wins sure read fresh reset =
    absurd (cc)
begins_so beginnings.PutAside goes_on is_stale newest other past is wins sure read fresh reset =
    absurd (cc)
begins_so beginnings.LinksReset goes_on is_stale newest other past is wins sure read fresh reset =
    (wins, reset (sym is))
begins_so beginnings.GoesOn goes_on is_stale newest other past is wins sure read fresh reset =
    (wins, sure (sym is), read (sym is), fresh (sym is))

pub sight_of : (log : Log) (is_stale goes_on : Bool) (first second newest other : List ℕ)
    (side : Side) (b : Beginning) (s : Seen) → ArePlaced side first second newest other
    → s.side ≡ side → IsSeen log newest s → has_past b ≡ true → is_trusted b ≡ goes_on
    → IsNewest newest other → (goes_on ≡ true → HasNoNewer newest other)
    → (goes_on ≡ true → IsReadWhole newest) → (goes_on ≡ true → is_stale ≡ false)
    → (goes_on ≡ false → IsDistrusted is_stale newest other)
    → IsSight log is_stale first second (record { beginning = b; seen = Some s })
sight_of log is_stale goes_on first second newest other side b s placed same seen past is wins sure
    read fresh reset = record {
      side = side;
      newest = newest;
      other = other;
      placed = placed;
      begins = begins_so b goes_on is_stale newest other past is wins sure read fresh reset;
      shown = (
        past,
        subst (λ (at : Side). ArePlaced at first second newest other) (sym same) placed,
        seen,
      );
    }

-- whether all of a log was read

pub whole_seen : (log : Log) (file : List ℕ) (s : Seen) → IsSeen log file s → s.events ≡ s.lines
    → s.damage ≡ None → IsReadWhole file
whole_seen log file s seen count none =
    lines_read file seen.begins s.settings.items seen.lines seen.head
    (sym seen.counted.logged ∙ count ∙ seen.counted.whole, sym seen.damaged ∙ none)

pub distrusted_by : (is_trusted is_stale : Bool) (log : Log) (newest other : List ℕ) (s : Seen)
    → IsSeen log newest s
    → (is_trusted ≡ false → (is_stale ≡ true) ⊎ (HasNoNewer newest other → ⊥))
    → (is_trusted ≡ true → s.events ≡ s.lines → s.damage ≡ None → ⊥)
    → IsDistrusted is_stale newest other
distrusted_by false is_stale log newest other s seen untrusted rotten = elim (untrusted refl) [
  | inl stale ↦ inl stale
  | inr torn ↦ inr (λ older read. torn older)
]
distrusted_by true is_stale log newest other s seen untrusted rotten = inr (λ older.
    lines_rotten newest seen.begins s.settings.items seen.lines seen.head (λ whole.
    rotten refl (seen.counted.logged ∙ whole.0 ∙ sym seen.counted.whole)
    (seen.damaged ∙ whole.1)))

-- a segment was found, whose state can't be read
pub aside_of : (honest : Type 0) (newest other : List ℕ) (o : Option FoundHead)
    (at : ℕ) → is_some o ≡ true
    → ForSome o (λ f. (at ≡ 87 + length f.text.items)
    × (honest → IsFoundIn newest f.head f.text.items))
    → honest → IsBacked newest other → (HasState newest → ⊥) → IsUnread newest other
aside_of honest newest other None at some stands clean wins none = absurd (cc)
aside_of honest newest other (Some f) at some stands clean wins none =
    unread_found newest other f.head f.text.items wins ((stands f refl).1 clean) none
