use Rattle.std.proofs.Common.{◌∙◌, ℕ, Bool, ap, refl, subst, sym}
use Rattle.std.specs.Prelude.{Option}
use Rattle.asdu.specs.declared.sizes.Sizes.{Sizes}
use Rattle.gateway.specs.declared.settings.LineSettings.{LineSettings}
use Rattle.gateway.specs.declared.walls.Wall.{Wall}
use Rattle.gateway.specs.Serial.{Serial}
use Rattle.gateway.specs.Centre.{Centre}
use Rattle.gateway.specs.State.{State}
use Rattle.gateway.specs.Carried.{serial_carried, centre_carried, carried, links_started}
use Rattle.gateway.specs.Config.{Settings}
use Rattle.gateway.specs.Restored.{HasSettings}
use Rattle.gateway.proofs.Going.{stations_carried}
use Rattle.gateway.proofs.engine.Gateway.carried.Goals as goal

-- the parts, put together
abbrev with_parts : Serial → Centre → Sizes → ℕ → Option Wall → State
with_parts serial centre sizes moment wall =
    record { serial = serial; centre = centre; sizes = sizes; moment = moment; wall = wall }

pub returns-clause-state : goal.returns-clause-state
returns-clause-state c =
    let now = c.args.now.now in
    let inside = c.self.inside in
    ap (λ (s : Serial). with_parts s c.in_ok-carried-2.field-0 c.line.result.now.sizes inside.moment
    inside.wall)
    c.in_ok-carried.ensures
    ∙ ap
    (λ (s : Centre). with_parts (serial_carried c.args.goes_on c.args.before.now now inside.serial)
    s
    c.line.result.now.sizes inside.moment inside.wall) c.in_ok-carried-2.ensures
    ∙ ap
    (λ (l : LineSettings). with_parts (serial_carried c.args.goes_on c.args.before.now now
    inside.serial)
    (centre_carried now inside.centre) l.sizes inside.moment inside.wall) c.line.ensures
    ∙ ap (λ (s : State). with_parts (serial_carried c.args.goes_on c.args.before.now now s.serial)
    (centre_carried now s.centre) now.line.sizes s.moment s.wall) c.self.view_is

settings_taken : (goes_on : Bool) (before now : Settings) (s : State)
    → HasSettings now (carried goes_on before now s)
settings_taken goes_on before now s =
    let t : Serial = links_started goes_on before now s.serial in
    record {
      serial = record {
        line = refl;
        stations = stations_carried before now t.line;
        commands = record {
          same_stations = refl;
          same_sizes = refl;
          same_select_ms = refl;
          same_max_age_ms = refl;
        };
      };
      centre = record {
        session = record { k_is = refl; w_is = refl; t1_is = refl; t2_is = refl; t3_is = refl };
        places = refl;
      };
      sizes = refl;
    }

pub returns-clause-settings : goal.returns-clause-settings
returns-clause-settings c =
    let now = c.args.now.now in
    subst (λ (s : State). HasSettings now s) (sym (returns-clause-state c))
    (settings_taken c.args.goes_on c.args.before.now now c.args.self)
