-- Each watch keeps its place, and its address.
use Rattle.std.proofs.Common.{◌≡◌, ℕ, ◌+◌, Bool, true, false, List, [], ◌∷◌, map, Some, None, refl}
use Rattle.std.proofs.Common.{ap, ◌∙◌, take}
use Rattle.std.specs.Prelude.{◌==◌, if◌then◌else◌, slice_get, Option}
use Rattle.gateway.specs.Config.{Settings}
use Rattle.gateway.specs.Log.{LineOut, TcpOut, Closed, GapOut}
use Rattle.gateway.specs.declared.ports.Next.TheVariants as next
use Rattle.gateway.specs.declared.settings.StationSettings.{StationSettings}
use Rattle.runlog.specs.Passing.{Passed, Came, Went, Between, passed, watched}
use Rattle.runlog.specs.Standings.{IsNoRequest, seat, seat_of}
use Rattle.runlog.specs.Ends.{is_away}
use Rattle.runlog.specs.Stations.{after_request, address_of, asked, asking_of}
use Rattle.runlog.specs.Stations.{gap_at, station_asked}
use Rattle.runlog.specs.Watching.{Watching, at, late_noted, line_received, new_stations}
use Rattle.runlog.specs.Watching.{new_watching, received, walled}
use Rattle.runlog.specs.declared.stations.Asking.{Asking}
use Rattle.runlog.specs.declared.stations.Asking.TheVariants.{Missed}
use Rattle.runlog.specs.declared.stations.StationWatch.{StationWatch}
use Rattle.runlog.specs.declared.traffic.Traffic.{Traffic}
use Rattle.runlog.specs.Traffic.{new_traffics}
use Rattle.runlog.proofs.Passings.{addresses_of, asked_same, asked_stations, late_same}
use Rattle.runlog.proofs.Passings.{line_received_same}
use Rattle.runlog.proofs.Passings.{looked_same, received_same, seen_same}
use Rattle.runlog.proofs.Standing.{address_stays, tries_stay}

-- ---- What is no request leaves them as they are

pub nothing_so : (p : Passed) (w : Watching) → IsNoRequest p → (passed p w).0.stations ≡ w.stations
nothing_so (Came (next.Open now) octets s) w none = (late_same s.late_octets w).stations
nothing_so (Came (next.Cut now) octets s) w none = (late_same s.late_octets w).stations
nothing_so (Came (next.Line now len) octets s) w none =
    let v = at now (late_noted s.late_octets w) in
    (seen_same s (line_received (take len octets) v)).stations
    ∙ (line_received_same (take len octets) v).stations ∙ (late_same s.late_octets w).stations
nothing_so (Came (next.Bytes now len) octets s) w none =
    let v = at now (late_noted s.late_octets w) in
    (seen_same s (received (take len octets) v)).stations
    ∙ (received_same (take len octets) v).stations ∙ (late_same s.late_octets w).stations
nothing_so (Came (next.Tick now) octets s) w none =
    (seen_same s (at now (late_noted s.late_octets w))).stations
    ∙ (late_same s.late_octets w).stations
nothing_so (Came (next.Wall now shown) octets s) w none =
    (seen_same s (walled now shown (at now (late_noted s.late_octets w)))).stations
    ∙ (late_same s.late_octets w).stations
nothing_so (Came next.Fault octets s) w none = (late_same s.late_octets w).stations
nothing_so (Came next.Done octets s) w none = (late_same s.late_octets w).stations
nothing_so (Went now (TcpOut octets)) w none = refl
nothing_so (Went now (Closed cause)) w none = refl
nothing_so (Went now (LineOut octets)) w none = absurd none
nothing_so (Went now (GapOut station session)) w none = absurd none
nothing_so (Between gateway) w none = (looked_same gateway w).stations

-- ---- Their places

abbrev pair : ℕ → ℕ → ℕ × ℕ
pair a b = (a, b)

seat_kept : (address : ℕ) (asking : Asking) (now : ℕ) (w : StationWatch) (b : Bool)
    → seat (if b then (station_asked asking now w).0 else w) ≡ seat w
seat_kept address asking now w false = refl
seat_kept address asking now w true =
    ap (λ n. pair n (station_asked asking now w).0.tries) (address_stays asking now w)
    ∙ ap (λ n. pair w.address n) (tries_stay asking now w)

seats_kept : (address : ℕ) (asking : Asking) (now : ℕ) (ws : List StationWatch)
    → map seat (map (after_request address asking now) ws) ≡ map seat ws
seats_kept address asking now [] = refl
seats_kept address asking now (w ∷ ws) =
    ap (λ s. s ∷ map seat (map (after_request address asking now) ws))
    (seat_kept address asking now w (w.address == address))
    ∙ ap (λ ss. seat w ∷ ss) (seats_kept address asking now ws)

gap_kept : (found : Option StationWatch) (now : ℕ) (ws : List StationWatch)
    → map seat (gap_at found now ws).0 ≡ map seat ws
gap_kept None now ws = refl
gap_kept (Some w) now ws = seats_kept w.address Missed now ws

new_seats : (tries : ℕ) (settings : List StationSettings)
    → map seat (new_stations tries settings) ≡ map (seat_of tries) settings
new_seats tries [] = refl
new_seats tries (s ∷ settings) = ap (λ ss. (s.address, tries) ∷ ss) (new_seats tries settings)

seats_if : (b : Bool) (asked ws : List StationWatch) → map seat asked ≡ map seat ws
    → map seat (if b then ws else asked) ≡ map seat ws
seats_if true asked ws same = refl
seats_if false asked ws same = same

passed_seats : (p : Passed) (w : Watching) → map seat (passed p w).0.stations ≡ map seat w.stations
passed_seats (Went now (LineOut octets)) w =
    ap (λ x. map seat x.0) (asked_stations octets now w)
    ∙ seats_if (is_away w.line.presence)
    (asked w.link octets now w.stations).0 w.stations
    (seats_kept (address_of w.link octets) (asking_of octets) now w.stations)
passed_seats (Went now (GapOut station session)) w =
    gap_kept (slice_get w.stations station) now w.stations
passed_seats (Went now (TcpOut octets)) w = refl
passed_seats (Went now (Closed cause)) w = refl
passed_seats (Came event octets s) w = ap (map seat) (nothing_so (Came event octets s) w tt)
passed_seats (Between gateway) w = ap (map seat) (nothing_so (Between gateway) w tt)

pub places_so : (c : Settings) (ps : List Passed)
    → map seat (watched (new_watching c) ps).stations
    ≡ map (seat_of (c.line.retries + 1)) c.stations
places_so c [] = new_seats (c.line.retries + 1) c.stations
places_so c (p ∷ ps) = passed_seats p (watched (new_watching c) ps) ∙ places_so c ps

-- ---- What is counted of each

passed_addresses : (p : Passed) (w : Watching)
    → addresses_of (passed p w).0.traffic ≡ addresses_of w.traffic
passed_addresses (Went now (LineOut octets)) w = (asked_same octets now w).addresses
passed_addresses (Went now (GapOut station session)) w = refl
passed_addresses (Went now (TcpOut octets)) w = refl
passed_addresses (Went now (Closed cause)) w = refl
passed_addresses (Between gateway) w = (looked_same gateway w).addresses
passed_addresses (Came (next.Open now) octets s) w = (late_same s.late_octets w).addresses
passed_addresses (Came (next.Cut now) octets s) w = (late_same s.late_octets w).addresses
passed_addresses (Came (next.Line now len) octets s) w =
    let v = at now (late_noted s.late_octets w) in
    (seen_same s (line_received (take len octets) v)).addresses
    ∙ (line_received_same (take len octets) v).addresses ∙ (late_same s.late_octets w).addresses
passed_addresses (Came (next.Bytes now len) octets s) w =
    let v = at now (late_noted s.late_octets w) in
    (seen_same s (received (take len octets) v)).addresses
    ∙ (received_same (take len octets) v).addresses ∙ (late_same s.late_octets w).addresses
passed_addresses (Came (next.Tick now) octets s) w =
    (seen_same s (at now (late_noted s.late_octets w))).addresses
    ∙ (late_same s.late_octets w).addresses
passed_addresses (Came (next.Wall now shown) octets s) w =
    (seen_same s (walled now shown (at now (late_noted s.late_octets w)))).addresses
    ∙ (late_same s.late_octets w).addresses
passed_addresses (Came next.Fault octets s) w = (late_same s.late_octets w).addresses
passed_addresses (Came next.Done octets s) w = (late_same s.late_octets w).addresses

new_addresses : (settings : List StationSettings)
    → addresses_of (new_traffics settings) ≡ map (λ (s : StationSettings). s.address) settings
new_addresses [] = refl
new_addresses (s ∷ settings) = ap (λ ns. s.address ∷ ns) (new_addresses settings)

pub counts_so : (c : Settings) (ps : List Passed)
    → map (λ (t : Traffic). t.address) (watched (new_watching c) ps).traffic
    ≡ map (λ (s : StationSettings). s.address) c.stations
counts_so c [] = new_addresses c.stations
counts_so c (p ∷ ps) = passed_addresses p (watched (new_watching c) ps) ∙ counts_so c ps

-- ---- How long an address is

passed_link : (p : Passed) (w : Watching) → (passed p w).0.link ≡ w.link
passed_link (Went now (LineOut octets)) w = (asked_same octets now w).link
passed_link (Went now (GapOut station session)) w = refl
passed_link (Went now (TcpOut octets)) w = refl
passed_link (Went now (Closed cause)) w = refl
passed_link (Between gateway) w = (looked_same gateway w).link
passed_link (Came (next.Open now) octets s) w = (late_same s.late_octets w).link
passed_link (Came (next.Cut now) octets s) w = (late_same s.late_octets w).link
passed_link (Came (next.Line now len) octets s) w =
    let v = at now (late_noted s.late_octets w) in
    (seen_same s (line_received (take len octets) v)).link
    ∙ (line_received_same (take len octets) v).link ∙ (late_same s.late_octets w).link
passed_link (Came (next.Bytes now len) octets s) w =
    let v = at now (late_noted s.late_octets w) in
    (seen_same s (received (take len octets) v)).link
    ∙ (received_same (take len octets) v).link ∙ (late_same s.late_octets w).link
passed_link (Came (next.Tick now) octets s) w =
    (seen_same s (at now (late_noted s.late_octets w))).link ∙ (late_same s.late_octets w).link
passed_link (Came (next.Wall now shown) octets s) w =
    (seen_same s (walled now shown (at now (late_noted s.late_octets w)))).link
    ∙ (late_same s.late_octets w).link
passed_link (Came next.Fault octets s) w = (late_same s.late_octets w).link
passed_link (Came next.Done octets s) w = (late_same s.late_octets w).link

pub link_so : (c : Settings) (ps : List Passed) → (watched (new_watching c) ps).link ≡ c.line.link
link_so c [] = refl
link_so c (p ∷ ps) = passed_link p (watched (new_watching c) ps) ∙ link_so c ps
