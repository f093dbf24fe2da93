-- The definitions, computed on the log of one report: the start of the link, a poll answered by a
-- single point, and a
-- connection with STARTDT on which the point goes out.
use Rattle.std.proofs.Common.{◌≡◌, [], ◌∷◌, true, false, None, refl}
use Rattle.ft12.specs.declared.frame.LinkSize.TheVariants.{One}
use Rattle.ft12.specs.Fronts.{front_of}
use Rattle.elements.specs.declared.types.TypeId.TheVariants.{MSpNa1}
use Rattle.elements.specs.Types.{type_of}
use Rattle.asdu.specs.declared.sizes.CauseSize.TheVariants as causes
use Rattle.asdu.specs.declared.sizes.CaSize.TheVariants as cas
use Rattle.asdu.specs.declared.sizes.IoaSize.TheVariants as ioas
use Rattle.asdu.specs.InformationObjects.{InformationObject, objects_of, monitor_objects_of}
use Rattle.apci.specs.declared.apdu.Apdu.TheVariants.{U}
use Rattle.apci.specs.declared.apdu.Uf.TheVariants.{StartAct}
use Rattle.gateway.specs.Log.{Log, Came, Went, LineIn, Opened, TcpIn, Ticked, LineOut, TcpOut}
use Rattle.gateway.specs.Log.{latest}
use Rattle.gateway.specs.Frames.{Connection, monitor_objects_sent, first_unacknowledged}
use Rattle.gateway.specs.Connections.{present}
use Rattle.gateway.specs.Reports.{Setup, taken_objects}

setup : Setup
setup = record {
  link = record { size = One; answer_ms = 200; retries = 3; hold = true; burst = 8 };
  addresses = 1 ∷ [];
  sizes = record { cause = causes.One; ca = cas.One; ioa = ioas.Two };
  places = 100;
  session = record { k = 12; w = 8; t1 = 15000; t2 = 10000; t3 = 20000 };
  stations = record { ca = 1; select = false } ∷ [];
  select_ms = 20000;
  max_age_ms = 10000;
}

-- newest first
log : Log
log =
    Went 50 (TcpOut (0x68 ∷ 0x0E ∷ 0x00 ∷ 0x00 ∷ 0x00 ∷ 0x00 ∷ 0x01 ∷ 0x01 ∷ 0x03 ∷ 0x00 ∷ 0x01
    ∷ 0x00 ∷ 0x64 ∷ 0x00
    ∷ 0x00 ∷ 0x01 ∷ []))
    ∷ Went 50 (LineOut (0x10 ∷ 0x5B ∷ 0x01 ∷ 0x5C ∷ 0x16 ∷ []))
    ∷ Came 50 (LineIn (0x68 ∷ 0x09 ∷ 0x09 ∷ 0x68 ∷ 0x08 ∷ 0x01 ∷ 0x01 ∷ 0x01 ∷ 0x03 ∷ 0x01 ∷ 0x64
    ∷ 0x00 ∷ 0x01 ∷ 0x74
    ∷ 0x16 ∷ []))
    ∷ Went 40 (TcpOut (0x68 ∷ 0x04 ∷ 0x0B ∷ 0x00 ∷ 0x00 ∷ 0x00 ∷ []))
    ∷ Came 40 (TcpIn (0x68 ∷ 0x04 ∷ 0x07 ∷ 0x00 ∷ 0x00 ∷ 0x00 ∷ []))
    ∷ Came 30 Opened
    ∷ Went 20 (LineOut (0x10 ∷ 0x7B ∷ 0x01 ∷ 0x7C ∷ 0x16 ∷ []))
    ∷ Came 20 (LineIn (0xE5 ∷ []))
    ∷ Went 10 (LineOut (0x10 ∷ 0x40 ∷ 0x01 ∷ 0x41 ∷ 0x16 ∷ []))
    ∷ Came 10 (LineIn (0x10 ∷ 0x0B ∷ 0x01 ∷ 0x0C ∷ 0x16 ∷ []))
    ∷ Went 0 (LineOut (0x10 ∷ 0x49 ∷ 0x01 ∷ 0x4A ∷ 0x16 ∷ []))
    ∷ Came 0 Ticked
    ∷ []

point : InformationObject
point = record {
  kind = MSpNa1;
  cause = 3;
  originator = 0;
  ca = 1;
  address = 100;
  element =
      1 ∷ [];
  tag = None;
}

-- the point is taken, once
taken_is : taken_objects setup log ≡ point ∷ []
unfolding front_of monitor_objects_of objects_of type_of setup log point
taken_is = refl

-- the connection's frames
connection : Connection
connection = record {
  sent_frames = record {
    ns = 0;
    nr = 0;
    asdu = 0x01 ∷ 0x01 ∷ 0x03 ∷ 0x00 ∷ 0x01 ∷ 0x00 ∷ 0x64 ∷ 0x00 ∷ 0x00 ∷ 0x01
        ∷ [];
  } ∷ [];
  received_frames = U StartAct ∷ [];
}

-- the point is sent, from the first unacknowledged on, and nothing is acknowledged yet
sent_is : monitor_objects_sent connection ≡ point ∷ []
unfolding monitor_objects_of objects_of type_of connection point
sent_is = refl

first_is : first_unacknowledged [] ≡ 0
first_is = refl

none_acknowledged : first_unacknowledged (connection ∷ []) ≡ 0
unfolding monitor_objects_of objects_of type_of connection
none_acknowledged = refl

moment_is : latest log ≡ 50
unfolding log
moment_is = refl

received_is : (present log).received ≡ 0x68 ∷ 0x04 ∷ 0x07 ∷ 0x00 ∷ 0x00 ∷ 0x00 ∷ []
unfolding log
received_is = refl
