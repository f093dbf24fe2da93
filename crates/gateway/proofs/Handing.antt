-- What a connection's history has as gone out was handed to TCP.
use Rattle.std.proofs.Common.{◌≡◌, ℕ, Bool, true, false, List, [], ◌∷◌, ◌++◌, map, Option, Some}
use Rattle.std.proofs.Common.{None, refl, ap, sym, ◌∙◌, subst, if◌then◌else◌}
use Rattle.apci.specs.declared.apdu.Apdu.{Apdu}
use Rattle.apci.specs.declared.apdu.Apdu.TheVariants.{I, S, U}
use Rattle.session.specs.declared.kinds.Close.{Close}
use Rattle.session.specs.declared.kinds.Close.TheVariants.{Grammar, SendNumber, ReceiveNumber}
use Rattle.session.specs.declared.kinds.Close.TheVariants.{Stopped, Timeout, OwnAnswers, Replaced}
use Rattle.gateway.specs.Log.{Log, LineIn, Opened, TcpIn, CutOff, Ticked, WallIs, Restarted, Came}
use Rattle.gateway.specs.Log.{Went, LineOut, TcpOut, Closed, GapOut, latest}
use Rattle.gateway.specs.Streams.{AreFrames, spelled}
use Rattle.gateway.specs.Frames.{Sent, data_frames}
use Rattle.gateway.specs.Connections.{Channel, present, receiving}
use Rattle.gateway.specs.Reports.{Setup}
use Rattle.gateway.specs.Works.{Works}
use Rattle.gateway.specs.Course.{Course, with_frames, with_sent, HandsOver}
use Rattle.gateway.specs.Course.{closed_course, IsLeft, Runs}
use Rattle.gateway.specs.GoingOut.{short_frames, short_frame, HasGoneOut}

-- by the octets that were handed over
pub record IsHanded (octets : List ℕ) (c : Course) : Type 0 where
  pub frames : List Apdu
  pub handed : AreFrames octets frames
  pub i_frames : c.sent ≡ data_frames frames
  pub short : short_frames c.talk ≡ map short_frame frames

nothing : (c : Course) → c.sent ≡ [] → short_frames c.talk ≡ [] → IsHanded [] c
nothing c none short = record {
  frames = [];
  handed = record { joined = refl; fit = tt };
  i_frames = none;
  short = short;
}

frames : (octets : List ℕ) (p : Setup) (fs : List Apdu) (now : ℕ) (wall : Option ℕ) (c : Course)
    → IsHanded octets c → IsHanded octets (with_frames p fs now wall c)
frames octets p [] now wall c h = h
frames octets p (f ∷ fs) now wall c h =
    let older : IsHanded octets (with_frames p fs now wall c) = frames octets p fs now wall c h in
    record {
      frames = older.frames;
      handed = older.handed;
      i_frames = older.i_frames;
      short = older.short;
    }

-- one more goes out
sent_data : (f : Apdu) (now : ℕ) (c : Course) (fs : List Apdu) → c.sent ≡ data_frames fs
    → (with_sent f now c).sent ≡ data_frames (f ∷ fs)
sent_data (I ns nr asdu) now c fs e =
    ap (λ (xs : List Sent). xs ++ record { ns = ns; nr = nr; asdu = asdu.items } ∷ []) e
sent_data (S nr) now c fs e = e
sent_data (U u) now c fs e = e

sent_short : (f : Apdu) (now : ℕ) (c : Course) (fs : List Apdu)
    → short_frames c.talk ≡ map short_frame fs
    → short_frames (with_sent f now c).talk ≡ map short_frame (f ∷ fs)
sent_short (I ns nr asdu) now c fs e = ap (λ (xs : List (Option Apdu)). None ∷ xs) e
sent_short (S nr) now c fs e = ap (λ (xs : List (Option Apdu)). Some (S nr) ∷ xs) e
sent_short (U u) now c fs e = ap (λ (xs : List (Option Apdu)). Some (U u) ∷ xs) e

sent : (p : Setup) (log : Log) (octets before_octets : List ℕ) (now : ℕ) (before after : Course)
    → HandsOver p log octets now before after → IsHanded before_octets before
    → IsHanded (before_octets ++ octets) after
sent p log octets before_octets now before after out h =
    subst (λ (c : Course). IsHanded (before_octets ++ octets) c) (sym out.put) (record {
      frames = out.frame ∷ h.frames;
      handed = record {
        joined = ap (λ (xs : List ℕ). xs ++ octets) h.handed.joined
            ∙ ap (λ (xs : List ℕ). spelled h.frames ++ xs) out.spelled_so;
        fit = (out.fits, h.handed.fit);
      };
      i_frames = sent_data out.frame now before h.frames h.i_frames;
      short = sent_short out.frame now before h.frames h.short;
    })

-- octets that come hand over none
received : (channel : Channel) (octets : List ℕ) (c : Course) → IsHanded channel.sent c
    → IsHanded (receiving channel octets).sent c
received channel octets c h = by_open channel.is_open
  where
    by_open : (b : Bool) → IsHanded (if b then record {
      is_open = true;
      sent = channel.sent;
      received = channel.received ++ octets;
      lacked_place = channel.lacked_place;
    } else channel).sent c
    by_open true = h
    by_open false = h

closed : (p : Setup) (log : Log) (now : ℕ) (cause : Close) (is_open : Bool) (at : ℕ) (c : Course)
    → IsHanded (present log).sent c
    → IsHanded (present (Went now (Closed cause) ∷ log)).sent (closed_course p cause is_open at c)
closed p log now Grammar is_open at c h = nothing _ refl refl
closed p log now SendNumber is_open at c h = nothing _ refl refl
closed p log now ReceiveNumber is_open at c h = nothing _ refl refl
closed p log now Stopped is_open at c h = nothing _ refl refl
closed p log now Timeout is_open at c h = nothing _ refl refl
closed p log now OwnAnswers is_open at c h = nothing _ refl refl
closed p log now Replaced is_open at c h = h

-- with other works all of this stays
again : (octets : List ℕ) (c : Course) (w : Works) → IsHanded octets c → IsHanded octets (record {
  talk = c.talk;
  sent = c.sent;
  earlier = c.earlier;
  works = w;
})
again octets c w h = record {
  frames = h.frames;
  handed = h.handed;
  i_frames = h.i_frames;
  short = h.short;
}

left : (p : Setup) (log : Log) (before after : Course) → IsLeft p log before after
    → IsHanded (present log).sent before → IsHanded (present log).sent after
left p log before after l h = subst (λ (c : Course). IsHanded (present log).sent c) (sym l.is)
    (again (present log).sent before _ h)

all_handed : (p : Setup) (log : Log) (c : Course) → Runs p log c → IsHanded (present log).sent c
all_handed p [] c r = subst (λ (d : Course). IsHanded [] d) (sym r) (nothing _ refl refl)
all_handed p (Came now (LineIn octets) ∷ log) c r =
    subst (λ (d : Course). IsHanded (present log).sent d) (sym r.5.2)
    (again (present log).sent r.1 _ (left p log r.0 r.1 r.4 (all_handed p log r.0 r.2)))
all_handed p (Came now (TcpIn octets) ∷ log) c r =
    let new : Log = Came now (TcpIn octets) ∷ log in
    subst (λ (d : Course). IsHanded (present new).sent d) (sym r.5.taken)
    (frames (present new).sent p r.5.frames _ _ _
    (received (present log) octets _
    (again (present log).sent r.1 _ (left p log r.0 r.1 r.4 (all_handed p log r.0 r.2)))))
all_handed p (Came now Ticked ∷ log) c r =
    subst (λ (d : Course). IsHanded (present log).sent d) (sym r.5)
    (again (present log).sent r.1 _ (left p log r.0 r.1 r.4 (all_handed p log r.0 r.2)))
all_handed p (Came now (WallIs number) ∷ log) c r =
    subst (λ (d : Course). IsHanded (present log).sent d) (sym r.5)
    (again (present log).sent r.1 _ (left p log r.0 r.1 r.4 (all_handed p log r.0 r.2)))
all_handed p (Came now Opened ∷ log) c r =
    subst (λ (d : Course). IsHanded [] d) (sym r.5) (nothing _ refl refl)
all_handed p (Came now CutOff ∷ log) c r =
    subst (λ (d : Course). IsHanded [] d) (sym r.5) (nothing _ refl refl)
all_handed p (Came now Restarted ∷ log) c r =
    subst (λ (d : Course). IsHanded [] d) (sym r.5.1) (nothing _ refl refl)
all_handed p (Went now (LineOut octets) ∷ log) c r =
    subst (λ (d : Course). IsHanded (present log).sent d) (sym r.2.is)
    (again (present log).sent r.0 _ (all_handed p log r.0 r.1))
all_handed p (Went now (GapOut station session) ∷ log) c r =
    subst (λ (d : Course). IsHanded (present log).sent d) (sym r.2.is)
    (again (present log).sent r.0 _ (all_handed p log r.0 r.1))
all_handed p (Went now (TcpOut octets) ∷ log) c r =
    let new : Log = Went now (TcpOut octets) ∷ log in
    subst (λ (d : Course). IsHanded (present new).sent d) (sym r.4.taken)
    (frames (present new).sent p r.4.frames _ _ r.1
    (sent p log octets (present log).sent (latest log) r.0 r.1 r.3 (all_handed p log r.0 r.2)))
all_handed p (Went now (Closed cause) ∷ log) c r =
    subst (λ (d : Course). IsHanded (present (Went now (Closed cause) ∷ log)).sent d) (sym r.2)
    (closed p log now cause (present log).is_open (latest log) r.0 (all_handed p log r.0 r.1))

pub has_gone_out : (p : Setup) (log : Log) (c : Course) → Runs p log c → HasGoneOut log c
has_gone_out p log c r =
    let h : IsHanded (present log).sent c = all_handed p log c r in
    record { frames = h.frames; handed = h.handed; i_frames = h.i_frames; short = h.short }
