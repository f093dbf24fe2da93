-- The requests of an errand (IEC 60870-5-101, 7.2.1.4 and 7.2.1.5), and what is waited for (this
-- gateway's own profile).
use Rattle.std.specs.Prelude.{◌≡◌, ℕ, ◌+◌, ◌==◌, Bool, true, false, if◌then◌else◌, List, [], ◌∷◌, map}
use Rattle.std.specs.Prelude.{Option, Some, None}
use Rattle.centre.specs.Errands.{Errand}
use Rattle.centre.specs.Requests.{command_type, content_of}
use Rattle.centre.specs.declared.errand.Standing.TheVariants.{Unsent}
use Rattle.centre.specs.declared.errand.Step.{Step}
use Rattle.centre.specs.declared.errand.Until.{Until}
use Rattle.centre.specs.declared.errand.Until.TheVariants.{Sent, Confirmed, Terminated}
use Rattle.centre.specs.declared.planning.Terms.{Terms}
use Rattle.centre.specs.declared.reading.Manner.{Manner}
use Rattle.centre.specs.declared.reading.Manner.TheVariants.{Select, Execute, Operate, Deactivate}
use Rattle.centre.specs.declared.reading.Order.{Order}
use Rattle.centre.specs.declared.reading.Wish.{Wish}
use Rattle.centre.specs.declared.reading.Wish.TheVariants.{Watch, Interrogate, Counters, Clock}
use Rattle.centre.specs.declared.reading.Wish.TheVariants.{Command}

-- to a station as a whole: an activation of object 0
abbrev pub step_to : (kind : ℕ) → (content : List ℕ) → Until → (ca : ℕ) → Step
step_to kind content until ca = record {
  request = record {
    kind = kind;
    cause = 6;
    ca = ca;
    ioa = 0;
    content = record { items = content };
  };
  until = until;
}

-- those of the settings, or else the one of all
abbrev pub known_addresses : List ℕ → List ℕ
known_addresses [] = 65535 ∷ []
known_addresses (ca ∷ more) = ca ∷ more

-- the one that is named, or else those
abbrev pub addresses_for : Option ℕ → List ℕ → List ℕ
addresses_for None known = known_addresses known
addresses_for (Some ca) known = ca ∷ []

abbrev pub tag_if : Bool → List ℕ → Option (List ℕ)
tag_if is_tagged tag = if is_tagged then Some tag else None

-- a type with a time tag is 13 above that without
abbrev pub tagged_type : Option (List ℕ) → ℕ → ℕ
tagged_type None kind = kind
tagged_type (Some tag) kind = kind + 13

abbrev pub command_step : Order → (selects : Bool) → (cause : ℕ) → Option (List ℕ) → Until → Step
command_step o selects cause tag until = record {
  request = record {
    kind = tagged_type tag (command_type o.value);
    cause = cause;
    ca = o.ca;
    ioa = o.ioa;
    content = record { items = content_of selects o.value tag };
  };
  until = until;
}

-- a select, an execute, one behind the other, or a deactivation of the select
abbrev pub order_steps : Manner → Order → Option (List ℕ) → List Step
order_steps Select o tag = command_step o true 6 tag Confirmed ∷ []
order_steps Execute o tag = command_step o false 6 tag (Terminated 1000) ∷ []
order_steps Operate o tag =
    command_step o true 6 tag Confirmed ∷ command_step o false 6 tag (Terminated 1000) ∷ []
order_steps Deactivate o tag = command_step o true 8 tag Confirmed ∷ []

-- The station interrogation has QOI 20, that of counters QCC 5, and the clock is told the time.
abbrev pub steps_of : Wish → Terms → List Step
steps_of Watch t = map (step_to 100 (20 ∷ []) Sent) (addresses_for None t.addresses.now)
steps_of (Interrogate ca) t =
    map (step_to 100 (20 ∷ []) (Terminated t.wait)) (addresses_for ca t.addresses.now)
steps_of (Counters ca) t =
    map (step_to 101 (5 ∷ []) (Terminated t.wait)) (addresses_for ca t.addresses.now)
steps_of (Clock ca) t = map (step_to 103 t.tag Confirmed) (addresses_for ca t.addresses.now)
steps_of (Command o) t = order_steps o.manner o (tag_if t.is_tagged t.tag)

abbrev pub stays : Wish → Bool
stays Watch = true
stays (Interrogate ca) = false
stays (Counters ca) = false
stays (Clock ca) = false
stays (Command o) = false

-- the stations whose termination is waited for: those of the settings, if a request is to all
abbrev pub awaited_by : Option ℕ → List ℕ → List ℕ
awaited_by None known = []
awaited_by (Some ca) known = if ca == 65535 then known else []

abbrev pub awaited_of : Wish → Terms → List ℕ
awaited_of Watch t = []
awaited_of (Interrogate ca) t = awaited_by ca t.addresses.now
awaited_of (Counters ca) t = awaited_by ca t.addresses.now
awaited_of (Clock ca) t = []
awaited_of (Command o) t = []

-- the errand, before its first request
pub record IsErrandOf (w : Wish) (t : Terms) (e : Errand) : Type 0 where
  pub steps : e.steps ≡ steps_of w t
  pub watch : e.stays ≡ stays w
  pub patience : e.wait ≡ t.wait
  pub first : e.at ≡ 0
  pub unsent : e.standing ≡ Unsent
  pub awaited : e.awaited ≡ awaited_of w t
  pub silent : e.silent ≡ awaited_of w t
  pub open_end : e.outcome ≡ None
