use Rattle.std.proofs.Common.{refl}
use Rattle.gateway.specs.Entries.{event_of, logged_of}
use Rattle.gateway.specs.Ports.{input_of, output_of}
use Rattle.gateway.specs.declared.entries.Entry.{Entry}
use Rattle.gateway.specs.declared.entries.Entry.TheVariants as entries
use Rattle.gateway.specs.declared.entries.StoredEntry.{StoredEntry}
use Rattle.gateway.specs.declared.entries.StoredEntry.TheVariants as stored
use Rattle.gateway.specs.declared.ports.Event.{Event}
use Rattle.gateway.specs.declared.ports.Event.TheVariants as events
use Rattle.gateway.specs.declared.ports.Action.{Action}
use Rattle.gateway.specs.declared.ports.Action.TheVariants as actions
use Rattle.delivery.specs.Meanings.{ComesAs, GoesAs, IsEvent, IsStored}
use Rattle.delivery.proofs.logged.events_and_actions_stand_under_their_names.Goals as goal

comes : (event : Event) → ComesAs event (input_of event)
comes (events.Line octets) = refl
comes events.Open = refl
comes (events.Bytes octets) = refl
comes events.Cut = refl
comes events.Tick = refl
comes (events.Wall number) = refl

goes : (action : Action) → GoesAs action (output_of action)
goes (actions.Line octets) = refl
goes (actions.Tcp octets) = refl
goes (actions.Close cause) = refl
goes (actions.Gap station session) = refl

enters : (entry : Entry) → IsEvent entry (event_of entry)
enters (entries.Line now octets) = refl
enters (entries.Open now) = refl
enters (entries.Bytes now octets) = refl
enters (entries.Cut now) = refl
enters (entries.Tick now) = refl
enters (entries.Wall now number) = refl

stores : (entry : StoredEntry) → IsStored entry (logged_of entry)
stores (stored.Came entry) = enters entry
stores (stored.Line now octets) = refl
stores (stored.Tcp now octets) = refl
stores (stored.Close now cause) = refl
stores (stored.Gap now station session) = refl

pub returns : goal.returns
returns c = record {
  events = λ event. comes event;
  actions = λ action. goes action;
  stored = λ entry. stores entry;
}
