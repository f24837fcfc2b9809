use Rattle.std.proofs.Common.{refl, subst, ◌∙◌}
use Rattle.judge_session_orders.specs.declared.backward.Backward.{Backward}
use Rattle.judge_memory.specs.Parts.{IsPart}
use Rattle.judge_session_orders.specs.Backward.{last_left}
use Rattle.judge_session_orders.specs.OnItsWay.{left_of}
use Rattle.judge_session_orders.proofs.PartLaws.{unread-no_start}
use Rattle.judge_session_orders.proofs.PlacementLaws.{other-placed, unread-kept}
use Rattle.judge_session_orders.proofs.backward.Backward.place_part.Goals as goal

pub place_write-requires-clause-part : goal.place_write-requires-clause-part
place_write-requires-clause-part c =
    let h = c.args.index.now.history in
    record {
      number_of = c.requires.part.number_of;
      part = subst (IsPart h (last_left (left_of h c.args.self.now) c.args.session))
          c.in-Write.is c.requires.part.part;
    }

pub place_read-requires-clause-source_below : goal.place_read-requires-clause-source_below
place_read-requires-clause-source_below c = c.requires.source_below c.in-SourcedRead.source c.in-SourcedRead.is

pub place_read-requires-clause-part : goal.place_read-requires-clause-part
place_read-requires-clause-part c =
    let h = c.args.index.now.history in
    record {
      number_of = c.requires.part.number_of;
      part = subst (IsPart h (last_left (left_of h c.args.self.now) c.args.session))
          c.in-SourcedRead.is c.requires.part.part;
    }

pub place_initial_read-requires-clause-part : goal.place_initial_read-requires-clause-part
place_initial_read-requires-clause-part c =
    let h = c.args.index.now.history in
    record {
      number_of = c.requires.part.number_of;
      part = subst (IsPart h (last_left (left_of h c.args.self.now) c.args.session))
          c.in-InitialRead.is c.requires.part.part;
    }

pub returns-in-ThinAirRead : goal.returns-in-ThinAirRead
returns-in-ThinAirRead c =
    let h = c.args.index.now.history in
    let b = c.args.self.now in
    let sizes = c.requires.next.on_its_way.sizes in
    let unread = unread-no_start h (last_left (left_of h b) c.args.session) c.args.part c.in-ThinAirRead.is c.requires.part.part in
    let d : Backward = record {
      own = b.own;
      ends = c.take_one.new.numbers;
      readers = b.readers;
      writes = b.writes;
      locks = b.locks;
      start = b.start;
    } in
    other-placed c.args.index.now b c.args.session c.requires.next d refl
    (record { ends = c.take_one.ensures.size ∙ sizes.ends; readers = sizes.readers; writes = sizes.writes; locks = sizes.locks })
    c.take_one.ensures.less c.take_one.ensures.others unread.0 (λ n. refl) (λ x. refl) (λ y. refl)
    (unread-kept c.args.index.now b c.args.session c.requires.next unread.1) refl
