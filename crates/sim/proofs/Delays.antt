-- How late an answer goes out.
use Rattle.std.proofs.Common.{◌≡◌, ℕ, ◌+◌, ◌<◌, ◌≤◌, List, length, get_or, drop, Some, None}
use Rattle.std.proofs.lemmas.List.{drop_all, drop_more}
use Rattle.sim.specs.Late.{delay_in, delay_of}
use Rattle.sim.specs.declared.stations.cue.Cue.{Cue}

pub delay_here : (request : ℕ) (cues : List Cue) (i : ℕ) (d : Cue) (ms : ℕ) → i < length cues →
    Some ms ≡ delay_in request (get_or cues i d) → delay_of request (drop i cues) ≡ Some ms
delay_here request cues i d ms lt e = rw (drop_more cues i d lt, ← e)

pub delay_next : (request : ℕ) (cues : List Cue) (i : ℕ) (d : Cue) → i < length cues →
    None ≡ delay_in request (get_or cues i d) →
    delay_of request (drop i cues) ≡ delay_of request (drop (i + 1) cues)
delay_next request cues i d lt e = rw (drop_more cues i d lt, ← e)

pub delay_end : (request : ℕ) (cues : List Cue) (i : ℕ) → length cues ≤ i →
    delay_of request (drop i cues) ≡ None
delay_end request cues i le = rw (drop_all i cues le)
