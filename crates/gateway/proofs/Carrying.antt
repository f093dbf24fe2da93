-- Commands without an answer are given up at a restart, and all else stays.
use Rattle.std.proofs.Common.{◌≡◌, ◌≢◌, ◌+◌, ◌<◌, ◌≤◌, add-one, ℕ, zero, suc, Bool, true, false}
use Rattle.std.proofs.Common.{length, refl, sym, ap, subst, ◌∙◌, arith}
use Rattle.std.specs.Prelude.{◌⊎◌, if◌then◌else◌}
use Rattle.std.proofs.Common.{inl, inr}
use Rattle.std.proofs.lemmas.Bool.{cases_eq}
use Rattle.link.specs.Turns.{station_at}
use Rattle.link.specs.Primary.{Primary}
use Rattle.link.specs.Carried as line
use Rattle.link.specs.Carried.{awaits_command, station_given_up, given_up, station_doubted, doubted}
use Rattle.gateway.specs.Serial.{Serial}
use Rattle.gateway.specs.Carried.{link_given_up, command_given_up, commands_given_up_upto}
use Rattle.gateway.specs.Carried.{without_commands, doubted_serial}

-- what giving up a link does to a line, as `giving_up_is_for_one_station` says it
pub record IsForOne : Type 0 where
  pub done : (p : Primary) (k : ℕ) → k < length p.stations → awaits_command (given_up k p) k ≡ false
  pub itself : (p : Primary) (k : ℕ) → k < length p.stations
      → station_at (given_up k p).stations k ≡ station_given_up (station_at p.stations k)
  pub others : (p : Primary) (k j : ℕ) → j ≢ k → station_at (given_up k p).stations j
      ≡ station_at p.stations j
  pub awaited : (p : Primary) (k j : ℕ) → j ≢ k → awaits_command (given_up k p) j
      ≡ awaits_command p j
  pub number : (p : Primary) (k : ℕ) → length (given_up k p).stations ≡ length p.stations
  -- and what doubting does, as `restarts_change_no_link` says it
  pub doubts : (p : Primary) (k : ℕ) → k < length p.stations
      → station_at (doubted p).stations k ≡ station_doubted (station_at p.stations k)
  pub still : (p : Primary) (k : ℕ) → awaits_command (doubted p) k ≡ awaits_command p k
  pub as_many : (p : Primary) → length (doubted p).stations ≡ length p.stations

module _ (law : IsForOne) where
  -- one station

  one_line : (k : ℕ) (s : Serial) (b : Bool) → awaits_command s.line k ≡ b
      → (command_given_up k s).line ≡ (if b then given_up k s.line else s.line)
  one_line k s true e = ap (λ (b : Bool). (if b then link_given_up k s else s).line) e
  one_line k s false e = ap (λ (b : Bool). (if b then link_given_up k s else s).line) e

  one_number : (k : ℕ) (s : Serial) → length (command_given_up k s).line.stations
      ≡ length s.line.stations
  one_number k s = go (awaits_command s.line k) refl
    where
      go : (b : Bool) → awaits_command s.line k ≡ b
          → length (command_given_up k s).line.stations ≡ length s.line.stations
      go true e = ap (λ (p : Primary). length p.stations) (one_line k s true e)
          ∙ law.number s.line k
      go false e = ap (λ (p : Primary). length p.stations) (one_line k s false e)

  one_done : (k : ℕ) (s : Serial) → k < length s.line.stations
      → awaits_command (command_given_up k s).line k ≡ false
  one_done k s within = go (awaits_command s.line k) refl
    where
      go : (b : Bool) → awaits_command s.line k ≡ b → awaits_command (command_given_up k s).line k
          ≡ false
      go true e = ap (λ (p : Primary). awaits_command p k) (one_line k s true e)
          ∙ law.done s.line k within
      go false e = ap (λ (p : Primary). awaits_command p k) (one_line k s false e) ∙ e

  one_awaited : (k j : ℕ) (s : Serial) → j ≢ k
      → awaits_command (command_given_up k s).line j ≡ awaits_command s.line j
  one_awaited k j s other = go (awaits_command s.line k) refl
    where
      go : (b : Bool) → awaits_command s.line k ≡ b
          → awaits_command (command_given_up k s).line j ≡ awaits_command s.line j
      go true e = ap (λ (p : Primary). awaits_command p j) (one_line k s true e)
          ∙ law.awaited s.line k j other
      go false e = ap (λ (p : Primary). awaits_command p j) (one_line k s false e)

  one_station : (k j : ℕ) (s : Serial) → j ≢ k
      → station_at (command_given_up k s).line.stations j ≡ station_at s.line.stations j
  one_station k j s other = go (awaits_command s.line k) refl
    where
      go : (b : Bool) → awaits_command s.line k ≡ b
          → station_at (command_given_up k s).line.stations j ≡ station_at s.line.stations j
      go true e = ap (λ (p : Primary). station_at p.stations j) (one_line k s true e)
          ∙ law.others s.line k j other
      go false e = ap (λ (p : Primary). station_at p.stations j) (one_line k s false e)

  one_down : (k : ℕ) (s : Serial) → k < length s.line.stations → awaits_command s.line k ≡ true
      → station_at (command_given_up k s).line.stations k
      ≡ station_given_up (station_at s.line.stations k)
  one_down k s within e =
      ap (λ (p : Primary). station_at p.stations k) (one_line k s true e)
      ∙ law.itself s.line k within

  one_kept : (k : ℕ) (s : Serial) → awaits_command s.line k ≡ false → command_given_up k s ≡ s
  one_kept k s e = ap (λ (b : Bool). if b then link_given_up k s else s) e

  -- so many stations

  number : (n : ℕ) (s : Serial) → length (commands_given_up_upto n s).line.stations
      ≡ length s.line.stations
  number zero s = refl
  number (suc n) s = one_number n (commands_given_up_upto n s) ∙ number n s

  later : (n j : ℕ) (s : Serial) → n ≤ j
      → awaits_command (commands_given_up_upto n s).line j ≡ awaits_command s.line j
  later zero j s le = refl
  later (suc n) j s le =
      let other : j ≢ n = omega arith in
      one_awaited n j (commands_given_up_upto n s) other ∙ later n j s (omega arith)

  later_station : (n j : ℕ) (s : Serial) → n ≤ j
      → station_at (commands_given_up_upto n s).line.stations j ≡ station_at s.line.stations j
  later_station zero j s le = refl
  later_station (suc n) j s le =
      let other : j ≢ n = omega arith in
      one_station n j (commands_given_up_upto n s) other ∙ later_station n j s (omega arith)

  done_upto : (n j : ℕ) (s : Serial) → n ≤ length s.line.stations → j < n
      → awaits_command (commands_given_up_upto n s).line j ≡ false
  done_upto zero j s most lt = absurd (omega (arith, lt))
  done_upto (suc n) j s most lt = go (λ lt. done_upto n j s (omega arith) lt) (cases_eq j n)
    where
      go : (j < n → awaits_command (commands_given_up_upto n s).line j ≡ false)
          → (j ≡ n) ⊎ (j ≡ n → ⊥)
          → awaits_command (commands_given_up_upto (suc n) s).line j ≡ false
      go before (inl here) =
          let there : n < length (commands_given_up_upto n s).line.stations =
          omega (arith, number n s, most) in
          subst (λ (i : ℕ). awaits_command (commands_given_up_upto (suc n) s).line i ≡ false)
          (sym here)
          (one_done n (commands_given_up_upto n s) there)
      go before (inr other) =
          one_awaited n j (commands_given_up_upto n s) other ∙ before (omega (arith, lt, other))

  down_upto : (n j : ℕ) (s : Serial) → n ≤ length s.line.stations → j < n → awaits_command s.line j
      ≡ true
      → station_at (commands_given_up_upto n s).line.stations j
      ≡ station_given_up (station_at s.line.stations j)
  down_upto zero j s most lt e = absurd (omega (arith, lt))
  down_upto (suc n) j s most lt e = go (λ lt. down_upto n j s (omega arith) lt e) (cases_eq j n)
    where
      go : (j < n → station_at (commands_given_up_upto n s).line.stations j
          ≡ station_given_up (station_at s.line.stations j))
          → (j ≡ n) ⊎ (j ≡ n → ⊥) → station_at (commands_given_up_upto (suc n) s).line.stations j
          ≡ station_given_up (station_at s.line.stations j)
      go before (inl here) =
          let there : n < length (commands_given_up_upto n s).line.stations =
          omega (arith, number n s, most) in
          subst (λ (i : ℕ). station_at (commands_given_up_upto (suc n) s).line.stations i
          ≡ station_given_up (station_at s.line.stations i)) (sym here)
          (one_down n (commands_given_up_upto n s) there
          (later n n s (omega arith) ∙ ap (λ (i : ℕ). awaits_command s.line i) (sym here) ∙ e)
          ∙ ap station_given_up (later_station n n s (omega arith)))
      go before (inr other) =
          one_station n j (commands_given_up_upto n s) other ∙ before (omega (arith, lt, other))

  others_upto : (n j : ℕ) (s : Serial) → awaits_command s.line j ≡ false
      → station_at (commands_given_up_upto n s).line.stations j ≡ station_at s.line.stations j
  others_upto zero j s e = refl
  others_upto (suc n) j s e = go (others_upto n j s e) (cases_eq j n)
    where
      go : station_at (commands_given_up_upto n s).line.stations j ≡ station_at s.line.stations j
          → (j ≡ n) ⊎ (j ≡ n → ⊥) → station_at (commands_given_up_upto (suc n) s).line.stations j
          ≡ station_at s.line.stations j
      go before (inl here) =
          subst (λ (i : ℕ). station_at (commands_given_up_upto (suc n) s).line.stations i
          ≡ station_at s.line.stations i) (sym here)
          (ap (λ (t : Serial). station_at t.line.stations n)
          (one_kept n (commands_given_up_upto n s)
          (later n n s (omega arith) ∙ ap (λ (i : ℕ). awaits_command s.line i) (sym here) ∙ e))
          ∙ later_station n n s (omega arith))
      go before (inr other) = one_station n j (commands_given_up_upto n s) other ∙ before

  kept_upto : (n : ℕ) (s : Serial) → ((k : ℕ) → k < n → awaits_command s.line k ≡ false)
      → commands_given_up_upto n s ≡ s
  kept_upto zero s none = refl
  kept_upto (suc n) s none =
      let before : commands_given_up_upto n s ≡ s = kept_upto n s (λ k lt. none k (omega arith)) in
      ap (command_given_up n) before ∙ one_kept n s (none n (omega arith))

  -- all stations

  pub done : (s : Serial) (k : ℕ) → k < length s.line.stations
      → awaits_command (without_commands s).line k ≡ false
  done s k lt =
      law.still (commands_given_up_upto (length s.line.stations) s).line k
      ∙ done_upto (length s.line.stations) k s (omega arith) lt

  pub count : (s : Serial) → length (without_commands s).line.stations ≡ length s.line.stations
  count s =
      law.as_many (commands_given_up_upto (length s.line.stations) s).line
      ∙ number (length s.line.stations) s

  there : (s : Serial) (k : ℕ) → k < length s.line.stations
      → station_at (without_commands s).line.stations k
      ≡ station_doubted (station_at (commands_given_up_upto (length s.line.stations)
      s).line.stations k)
  there s k lt = law.doubts (commands_given_up_upto (length s.line.stations) s).line k
      (omega (arith, lt, number (length s.line.stations) s))

  pub down : (s : Serial) (k : ℕ) → k < length s.line.stations → awaits_command s.line k ≡ true
      → station_at (without_commands s).line.stations k
      ≡ station_doubted (station_given_up (station_at s.line.stations k))
  down s k lt e = there s k lt
      ∙ ap station_doubted (down_upto (length s.line.stations) k s (omega arith) lt e)

  pub others : (s : Serial) (k : ℕ) → k < length s.line.stations → awaits_command s.line k ≡ false
      → station_at (without_commands s).line.stations k
      ≡ station_doubted (station_at s.line.stations k)
  others s k lt e =
      there s k lt ∙ ap station_doubted (others_upto (length s.line.stations) k s e)

  pub kept : (s : Serial) → ((k : ℕ) → k < length s.line.stations → awaits_command s.line k ≡ false)
      → without_commands s ≡ doubted_serial s
  kept s none = ap doubted_serial (kept_upto (length s.line.stations) s none)

-- nothing is left to be reported that wasn't before

one_silent : (k : ℕ) (s : Serial) → (command_given_up k s).silent ≡ s.silent
one_silent k s = go (awaits_command s.line k)
  where
    go : (b : Bool) → (if b then link_given_up k s else s).silent ≡ s.silent
    go true = refl
    go false = refl

one_gap : (k : ℕ) (s : Serial) → (command_given_up k s).gap ≡ s.gap
one_gap k s = go (awaits_command s.line k)
  where
    go : (b : Bool) → (if b then link_given_up k s else s).gap ≡ s.gap
    go true = refl
    go false = refl

silent_upto : (n : ℕ) (s : Serial) → (commands_given_up_upto n s).silent ≡ s.silent
silent_upto zero s = refl
silent_upto (suc n) s = one_silent n (commands_given_up_upto n s) ∙ silent_upto n s

gap_upto : (n : ℕ) (s : Serial) → (commands_given_up_upto n s).gap ≡ s.gap
gap_upto zero s = refl
gap_upto (suc n) s = one_gap n (commands_given_up_upto n s) ∙ gap_upto n s

one_line_is : (k : ℕ) (s : Serial) → (command_given_up k s).line ≡ line.command_given_up k s.line
one_line_is k s = go (awaits_command s.line k)
  where
    go : (b : Bool)
        → (if b then link_given_up k s else s).line ≡ (if b then given_up k s.line else s.line)
    go true = refl
    go false = refl

line_upto : (n : ℕ) (s : Serial) → (commands_given_up_upto n s).line
    ≡ line.commands_given_up_upto n s.line
line_upto zero s = refl
line_upto (suc n) s =
    one_line_is n (commands_given_up_upto n s) ∙ ap (line.command_given_up n) (line_upto n s)

-- the line is that of the primary station that gives up each command without an answer
pub line_is : (s : Serial) → (without_commands s).line
    ≡ doubted (line.without_commands s.line)
line_is s = ap doubted (line_upto (length s.line.stations) s)

pub silent : (s : Serial) → (without_commands s).silent ≡ s.silent
silent s = silent_upto (length s.line.stations) s

pub gap : (s : Serial) → (without_commands s).gap ≡ s.gap
gap s = gap_upto (length s.line.stations) s

-- one station more
pub next : (n : ℕ) (s t u : Serial) → u ≡ commands_given_up_upto n s → t ≡ command_given_up n u
    → t ≡ commands_given_up_upto (n + 1) s
next n s t u before one = rw add-one (one ∙ ap (command_given_up n) before)
