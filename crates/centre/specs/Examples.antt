-- Whole exchanges, worked by hand from IEC 60870-5-104, 5 and IEC 60870-5-101, 7.2 and 7.3.
use Rattle.std.specs.Prelude.{◌≡◌, ℕ, zero, suc, true, false, List, [], ◌∷◌, ◌++◌, Option, Some}
use Rattle.std.specs.Prelude.{None}
use Rattle.apci.specs.Spelling.{spelling}
use Rattle.apci.specs.declared.apdu.Apdu.{Apdu}
use Rattle.apci.specs.declared.apdu.Apdu.TheVariants.{I}
use Rattle.centre.specs.Centres.{Due, first_centre, next_of, took}
use Rattle.centre.specs.Plans.{order_steps}
use Rattle.centre.specs.declared.centre.Centre.{Centre}
use Rattle.centre.specs.declared.errand.Outcome.{Outcome}
use Rattle.centre.specs.declared.errand.Standing.TheVariants.{Unsent}
use Rattle.centre.specs.declared.reading.Manner.{Manner}
use Rattle.centre.specs.declared.request.Value.TheVariants.{Single}

-- the octets of what went out, and the centre behind that
pub record Course : Type 0 where
  pub octets : List (List ℕ)
  pub centre : Centre

abbrev pub with_due : Due → (Centre → Course) → Course
with_due (None, c) more = record { octets = []; centre = c }
with_due (Some a, c) more =
    record { octets = spelling a ∷ (more c).octets; centre = (more c).centre }

-- all that is due at a moment, up to so many APDUs
abbrev pub all_due : (most now : ℕ) → Centre → Course
all_due zero now c = record { octets = []; centre = c }
all_due (suc n) now c = with_due (next_of now c) (all_due n now)

abbrev pub came : Option Apdu → (now : ℕ) → Centre → Centre
came None now c = c
came (Some a) now c = took a now c

-- at each of these moments an APDU may come, and what is due goes out
abbrev pub course : List (ℕ × Option Apdu) → Centre → Course
course [] c = record { octets = []; centre = c }
course (m ∷ ms) c =
    let here = all_due 4 m.0 (came m.1 m.0 c) in
    let more = course ms here.centre in
    record { octets = here.octets ++ more.octets; centre = more.centre }

-- a single command to object 100 of common address 1: on
abbrev pub switch_on : Manner → Centre
switch_on manner = first_centre 0 (record {
  steps = order_steps manner (record {
    manner = manner;
    ca = 1;
    ioa = 100;
    value = Single true;
  }) None;
  stays = false;
  wait = 10000;
  at = 0;
  standing = Unsent;
  awaited = [];
  silent = [];
  outcome = None;
})

abbrev pub information : (ns nr : ℕ) → List ℕ → Option Apdu
information ns nr asdu = Some (I ns nr (record { items = asdu }))

-- these octets go out, and the errand ends so
abbrev pub EndsBy : Manner → List (ℕ × Option Apdu) → List (List ℕ) → Outcome → Type 0
EndsBy manner moments octets end =
    ((course moments (switch_on manner)).octets ≡ octets)
    × ((course moments (switch_on manner)).centre.errand.outcome ≡ Some end)
