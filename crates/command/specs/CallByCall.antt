-- What each call makes of the commands that wait, of what stands on a line, and of the own answers
-- (IEC 60870-5-101, 6.4 and 7.2.3; first in, first out is this gateway's own profile).
use Rattle.std.specs.Prelude.{◌≡◌, ℕ, suc, ◌<◌, ◌≤◌, ◌==◌, ◌⊎◌, ◌||◌, ◌&&◌, not, Bool, true, false}
use Rattle.std.specs.Prelude.{List, [], ◌∷◌, ◌++◌, length, slice_get, Option, Some, None, is_none}
use Rattle.asdu.specs.declared.sizes.Sizes.{Sizes}
use Rattle.command.specs.declared.station.StationInfo.{StationInfo}
use Rattle.command.specs.Octets.{answer}
use Rattle.command.specs.Standard.{negative_of, is_for_station}
use Rattle.command.specs.Judging.{judged}
use Rattle.command.specs.State.{line_of, refusal_of, octets_waiting}
use Rattle.command.specs.History.{GivenUp, forwarded_to, sent_count, next_for}
use Rattle.command.specs.Calls.{Call, Judge, PutOnLine, Accept, Busy, Lose, Own, SendOwn, Cut, Run}
use Rattle.command.specs.Calls.{run}
use Rattle.command.specs.Confirming.{GoOn, clears_line}

abbrev pub is_cut : Call → Bool
is_cut Cut = true
is_cut call = false

abbrev pub is_put : ℕ → Call → Bool
is_put k (PutOnLine j) = k == j
is_put k call = false

abbrev pub is_judge : Call → Bool
is_judge (Judge xs now wall) = true
is_judge call = false

abbrev pub is_own : Call → Bool
is_own (Own octets) = true
is_own SendOwn = true
is_own call = false

-- the station accepted what stood on its line, refused it as busy, or was given up
abbrev pub is_done : ℕ → Call → Bool
is_done k (Accept j) = k == j
is_done k (Busy j) = k == j
is_done k (Lose j) = k == j
is_done k call = false

module _ (stations : List StationInfo) (sizes : Sizes) (select_ms max_age_ms : ℕ) where
  -- a command goes out to the station: one waits for it
  abbrev pub goes_out : ℕ → Call → List Call → Bool
  goes_out k (PutOnLine j) earlier =
      k == j && not (is_none (octets_waiting j
      (run stations sizes select_ms max_age_ms earlier).state))
  goes_out k call earlier = false

module _ (stations : List StationInfo) (sizes : Sizes) (select_ms max_age_ms : ℕ)
    (calls : List Call) where
  abbrev after : List Call → Run
  after cs = run stations sizes select_ms max_age_ms cs

  abbrev to_station : ℕ → List Call → List (List ℕ)
  to_station k cs = forwarded_to sizes stations select_ms max_age_ms k (after cs).history

  abbrev gone_to : ℕ → List Call → ℕ
  gone_to k cs = sent_count sizes stations select_ms max_age_ms k (after cs).history

  -- A command that is forwarded is the last of its station's, and nothing else changes these on one
  -- connection. The next that goes out is the first that didn't.
  pub record GoInTurn (k : ℕ) : Type 0 where
    pub last : (station : StationInfo) (xs : List ℕ) (now : ℕ) (wall : Option ℕ) →
        slice_get stations k ≡ Some station → is_for_station xs station ≡ true →
        (judged xs now wall (after calls).state).0 ≡ None →
        to_station k (Judge xs now wall ∷ calls) ≡ to_station k calls ++ xs ∷ []
    pub not_its : (xs : List ℕ) (now : ℕ) (wall : Option ℕ) →
        ((station : StationInfo) → slice_get stations k ≡ Some station →
        is_for_station xs station ≡ false) →
        to_station k (Judge xs now wall ∷ calls) ≡ to_station k calls
    pub refused : (xs a : List ℕ) (now : ℕ) (wall : Option ℕ) →
        (judged xs now wall (after calls).state).0 ≡ Some a →
        to_station k (Judge xs now wall ∷ calls) ≡ to_station k calls
    pub stays : (call : Call) → (is_judge call || is_cut call) ≡ false →
        to_station k (call ∷ calls) ≡ to_station k calls
    pub next : (before behind : List (List ℕ)) (xs : List ℕ) →
        to_station k calls ≡ before ++ xs ∷ behind → gone_to k calls ≡ length before →
        next_for sizes stations select_ms max_age_ms k (after calls).history ≡ Some xs
    pub goes : (xs : List ℕ) →
        next_for sizes stations select_ms max_age_ms k (after calls).history ≡ Some xs →
        gone_to k (PutOnLine k ∷ calls) ≡ suc (gone_to k calls)
    pub waits : (call : Call) → (is_put k call || is_cut call) ≡ false →
        gone_to k (call ∷ calls) ≡ gone_to k calls
    pub cut : (to_station k (Cut ∷ calls) ≡ []) × (gone_to k (Cut ∷ calls) ≡ 0)

  -- A command that went out, and that its station then refuses as busy, gets a negative answer,
  -- whatever else lies between, while its connection is open. What isn't on the line gets none.
  pub record IsAnsweredBusy (k : ℕ) : Type 0 where
    pub answered : (xs : List ℕ) (on_line : List Call) →
        next_for sizes stations select_ms max_age_ms k (after calls).history ≡ Some xs →
        GoOn (λ call before. is_cut call
        || clears_line stations sizes select_ms max_age_ms k call before)
        (PutOnLine k ∷ calls) on_line →
        refusal_of (line_of k (after on_line).state) ≡ Some (answer (negative_of xs) xs)
    pub silent : (call : Call) (free : List Call) →
        (call ≡ Accept k) ⊎ ((call ≡ Busy k) ⊎ ((call ≡ Lose k) ⊎ (call ≡ Cut))) →
        GoOn (λ other before. is_put k other) (call ∷ calls) free →
        refusal_of (line_of k (after free).state) ≡ None

  -- An own answer that is handed over is the last that waits, if fewer than 16 do, and the first
  -- goes out. Nothing else changes them on one connection.
  pub record WaitInTurn : Type 0 where
    pub kept : (octets : List ℕ) → length (after calls).state.answers < 16 →
        (after (Own octets ∷ calls)).state.answers ≡ (after calls).state.answers ++ octets ∷ []
    pub full : (octets : List ℕ) → 16 ≤ length (after calls).state.answers →
        (after (Own octets ∷ calls)).state.answers ≡ (after calls).state.answers
    pub goes : (octets : List ℕ) (rest : List (List ℕ)) →
        (after calls).state.answers ≡ octets ∷ rest →
        (after (SendOwn ∷ calls)).state.answers ≡ rest
    pub stays : (call : Call) → (is_own call || is_cut call) ≡ false →
        (after (call ∷ calls)).state.answers ≡ (after calls).state.answers
    pub cut : (after (Cut ∷ calls)).state.answers ≡ []

  -- A command that went out, and whose station is then given up, is lost, whatever else lies
  -- between: other stations' commands, answers, and the end of its connection too. It is lost once.
  -- What is done, or never went out, isn't lost.
  pub record IsLostOnTheLine (k : ℕ) : Type 0 where
    pub lost : (octets : List ℕ) (on_line : List Call) →
        octets_waiting k (after calls).state ≡ Some octets →
        GoOn (λ call before. is_done k call) (PutOnLine k ∷ calls) on_line →
        (after (Lose k ∷ on_line)).history ≡ GivenUp k true ∷ (after on_line).history
    pub done : (call : Call) (free : List Call) → is_done k call ≡ true →
        GoOn (goes_out stations sizes select_ms max_age_ms k) (call ∷ calls) free →
        (after (Lose k ∷ free)).history ≡ GivenUp k false ∷ (after free).history
    pub never : GoOn (goes_out stations sizes select_ms max_age_ms k) [] calls →
        (after (Lose k ∷ calls)).history ≡ GivenUp k false ∷ (after calls).history
