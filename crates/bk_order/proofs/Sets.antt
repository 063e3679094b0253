-- Frames as a set, and more of them.
use Rattle.std.proofs.Common.{List, sym, subst}
use Rattle.bk_base.specs.declared.kind.Kind.TheVariants as kind
use Rattle.bk_base.specs.Feed.{Frame, frame_of}
use Rattle.bk_committee.specs.Payload.{CommitteeValue, sizes_of}
use Rattle.bk_cert.specs.Node.{Node}
use Rattle.bk_cert.specs.Clear.{IsClear}
use Rattle.bk_evidence.specs.Batches.{Batch, AreApart}
use Rattle.bk_commit.specs.Growth.{IsPartOf, IsPrefix}
use Rattle.bk_commit.proofs.Settled.{anchors_begin}
use Rattle.bk_flatten.specs.Batches.{Payloads, batches_of}
use Rattle.bk_flatten.specs.Order.{IsWholeOrder}
use Rattle.bk_flatten.proofs.Orders.{whole_begins}
use Rattle.bk_flatten.proofs.Growth.{batches_begin}
use Rattle.bk_order.specs.declared.stop.Stop.{Stop}
use Rattle.bk_order.specs.Frames.{AreCerts, AreBatches, OfHeld}
use Rattle.bk_order.specs.Stops.{AreClear, IsStop, IsStopOf, HasNoStop}
use Rattle.bk_order.specs.Orders.{AreOrdered, Ordered, IsOrderOf}

module _ (k : CommitteeValue) (one other : List Frame) (into : IsPartOf one other) (back : IsPartOf other one) where
  certs_same : (certs : List Node) → AreCerts k one certs → AreCerts k other certs
  certs_same certs h = record {
    sound = λ c t. let s = h.sound c t in (s.0, into (frame_of kind.Certificate s.0) s.1, s.2);
    complete = λ c s. h.complete c (s.0, back (frame_of kind.Certificate s.0) s.1, s.2);
  }

  batches_same : (batches : List Batch) → AreBatches one batches → AreBatches other batches
  batches_same batches h = record {
    sound = λ c t. let s = h.sound c t in (s.0, into (frame_of kind.Batch s.0) s.1, s.2);
    complete = λ c s. h.complete c (s.0, back (frame_of kind.Batch s.0) s.1, s.2);
  }

  held_same : (P : List Node → List Batch → Type 0) → OfHeld k one P → OfHeld k other P
  held_same P h = record { certs = h.certs; batches = h.batches; are_certs = certs_same h.certs h.are_certs; are_batches = batches_same h.batches h.are_batches; holds = h.holds }

  pub stop_same : (s : Stop) → IsStop k one s → IsStop k other s
  stop_same s h = held_same (λ certs batches. IsStopOf certs batches s) h

  pub none_same : HasNoStop k one → HasNoStop k other
  none_same h = held_same (λ certs batches. AreClear certs batches) h

  pub order_same : (o : Ordered) → IsOrderOf k one o → IsOrderOf k other o
  order_same o h = held_same (λ certs batches. AreOrdered (sizes_of k) certs batches o) h

-- what is held of clear frames is clear
pub clear_of : (k : CommitteeValue) (frames : List Frame) (certs : List Node) → HasNoStop k frames → AreCerts k frames certs → IsClear certs
clear_of k frames certs none are =
    let into : IsPartOf certs none.certs = λ c t. none.are_certs.complete c (are.sound c t) in
    record {
      no_collision = λ c d a b e. none.holds.clear.no_collision c d (into c a) (into d b) e;
      no_twins = λ c d a b e. none.holds.clear.no_twins c d (into c a) (into d b) e;
    }

pub apart_of : (k : CommitteeValue) (frames : List Frame) (batches : List Batch) → HasNoStop k frames → AreBatches frames batches → AreApart batches
apart_of k frames batches none are c d a b e = none.holds.apart c d (none.are_batches.complete c (are.sound c a)) (none.are_batches.complete d (are.sound d b)) e

-- ---- a part of frames that nothing stops

pub clear_part : (xs ys : List Node) → IsPartOf xs ys → IsClear ys → IsClear xs
clear_part xs ys into h = record {
  no_collision = λ c d x y. h.no_collision c d (into c x) (into d y);
  no_twins = λ c d x y. h.no_twins c d (into c x) (into d y);
}

apart_part : (xs ys : List Batch) → IsPartOf xs ys → AreApart ys → AreApart xs
apart_part xs ys into h = λ b d x y. h b d (into b x) (into d y)

-- nothing stops the part either
pub none_in_part : (k : CommitteeValue) (part whole : List Frame) → IsPartOf part whole → HasNoStop k whole → (certs : List Node) (batches : List Batch) → AreCerts k part certs → AreBatches part batches
    → HasNoStop k part
none_in_part k part whole into none certs batches are_certs are_batches = record {
  certs = certs;
  batches = batches;
  are_certs = are_certs;
  are_batches = are_batches;
  holds = record {
    clear = clear_part certs none.certs (λ c t. let x = are_certs.sound c t in none.are_certs.complete c (x.0, into (frame_of kind.Certificate x.0) x.1, x.2)) none.holds.clear;
    apart = apart_part batches none.batches (λ b t. let x = are_batches.sound b t in none.are_batches.complete b (x.0, into (frame_of kind.Batch x.0) x.1, x.2)) none.holds.apart;
  };
}

pub whole_of : (k : CommitteeValue) (frames : List Frame) (o : Ordered) (h : IsOrderOf k frames o) → IsWholeOrder (sizes_of k) h.certs o.order
whole_of k frames o h = record { anchors = o.anchors; committed = h.holds.committed; ordered = h.holds.ordered }

module _ (k : CommitteeValue) (small large : List Frame) (o p : Ordered) (part : IsPartOf small large) (none : HasNoStop k large) (h : IsOrderOf k small o) (g : IsOrderOf k large p) where
  certs_part : IsPartOf h.certs g.certs
  certs_part c t = let s = h.are_certs.sound c t in g.are_certs.complete c (s.0, part (frame_of kind.Certificate s.0) s.1, s.2)

  batches_part : IsPartOf h.batches g.batches
  batches_part c t = let s = h.are_batches.sound c t in g.are_batches.complete c (s.0, part (frame_of kind.Batch s.0) s.1, s.2)

  pub frames_grow : IsPrefix o.anchors p.anchors × IsPrefix o.order p.order × IsPrefix o.payloads.list p.payloads.list
  frames_grow =
      let clear = clear_of k large g.certs none g.are_certs in
      let apart = apart_of k large g.batches none g.are_batches in
      let payloads = batches_begin (sizes_of k) h.certs g.certs h.batches g.batches o.order p.order clear apart certs_part batches_part (whole_of k small o h) (whole_of k large p g) in (
        anchors_begin (sizes_of k) h.certs g.certs clear certs_part o.anchors p.anchors h.holds.committed g.holds.committed,
        whole_begins (sizes_of k) h.certs g.certs o.order p.order clear certs_part (whole_of k small o h) (whole_of k large p g),
        subst (λ (t : Payloads). IsPrefix t.list p.payloads.list) (sym h.holds.payloads_are) (subst (λ (t : Payloads). IsPrefix (batches_of h.certs h.batches o.order).list t.list) (sym g.holds.payloads_are) payloads),
      )
