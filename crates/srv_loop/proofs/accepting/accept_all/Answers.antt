use Rattle.std.proofs.Common.{refl, ◌∙◌, arith}
use Rattle.srv_loop.proofs.Leading.{RoseBy-more}
use Rattle.srv_loop.proofs.Many.{AllLed-none, AllLed-more, AllLed-many, AllLed-jobs, at_least_more, one_more}
use Rattle.srv_loop.proofs.accepting.accept_all.Goals as goal
use Rattle.srv_loop.proofs.accepting.accept_all.Goals.{in-Link+in-Ok, in-Failed}

pub loop-init : goal.loop-init
loop-init g c =
    let none = c.new-tally.ensures in record {
      accepts = none;
      stops = refl;
      links = omega arith;
      failed = omega arith;
      full = omega arith;
      unserved = omega arith;
      opened = AllLed-none _ _ _ _ _ _ (omega arith) (omega arith);
      spent = λ is. is;
      can_start = c.requires;
      lasting = omega arith;
      spawner_lasting = omega arith;
      place = refl;
      same_files = refl;
      same_file_faults = refl;
      same_port_faults = refl;
      same_link = refl;
    }

pub loop-preserved : goal.loop-preserved
loop-preserved g c =
    let so_far = c.loop.invariant in
    elim c.match-next_answer.branch [
      | in-Link+in-Ok w ↦
          let link = w.in-Link.ensures in
          let fate = w.in-Ok.ensures in
          let counted = w.count.ensures in
          let sums =
          one_more c.loop.tally w.count.new.self w.in-Ok.fate
          counted.served counted.full counted.unserved in
          rw (w.desk-is, w.spawner-is, w.tally-is) (record {
            accepts = omega (arith, so_far.accepts, sums, counted.failed);
            stops = link.ends ∙ so_far.stops;
            links = (λ small. let e = so_far.links in let f = link.links in omega (arith, e, f, sums));
            failed = omega (arith, so_far.failed, link.lasting, counted.failed);
            full = (λ small.
                let e = RoseBy-more _ _ _ _ _ so_far.full fate.full small in
                omega (arith, e, counted.full));
            unserved = (
                let e = at_least_more _ _ _ _ _ so_far.unserved fate.unserved in
                omega (arith, e, counted.unserved));
            opened = (
                let stays = w.lead.ensures.spent in
                let served = counted.served in
                let unserved = counted.unserved in
                AllLed-more _ _ _ _ _ _ _ _ _ _ _ _ _ _ so_far.opened fate.opened stays served unserved);
            spent = λ is. w.lead.ensures.spent (so_far.spent is);
            can_start = w.lead.ensures.can_start;
            lasting = omega (arith, so_far.lasting, link.lasting);
            spawner_lasting = omega (arith, so_far.spawner_lasting, w.lead.ensures.lasting);
            place = link.place ∙ so_far.place;
            same_files = link.same_files ∙ so_far.same_files;
            same_file_faults = link.same_file_faults ∙ so_far.same_file_faults;
            same_port_faults = link.same_port_faults ∙ so_far.same_port_faults;
            same_link = link.same_link ∙ so_far.same_link;
          })
      | in-Failed w ↦
          let failed = w.in-Failed.ensures in
          rw (w.desk-is, w.spawner-is, w.tally-is) (record {
            accepts = omega (arith, so_far.accepts);
            stops = failed.ends ∙ so_far.stops;
            links = (λ small. let e = so_far.links in let f = failed.links in omega (arith, e, f));
            failed = at_least_more _ 1 _ _ _ so_far.failed (failed.cause refl);
            full = so_far.full;
            unserved = so_far.unserved;
            opened = (
                let (links, counts, led, taken) = so_far.opened in
                (links, record { served = counts.served; unserved = counts.unserved }, led, taken));
            spent = so_far.spent;
            can_start = so_far.can_start;
            lasting = omega (arith, so_far.lasting, failed.lasting);
            spawner_lasting = so_far.spawner_lasting;
            place = failed.place ∙ so_far.place;
            same_files = failed.same_files ∙ so_far.same_files;
            same_file_faults = failed.same_file_faults ∙ so_far.same_file_faults;
            same_port_faults = failed.same_port_faults ∙ so_far.same_port_faults;
            same_link = failed.same_link ∙ so_far.same_link;
          })
    ]

pub returns-in-Stopped-clause-many : goal.returns-in-Stopped-clause-many
returns-in-Stopped-clause-many g c = AllLed-many _ _ _ _ _ _ _ _ _ c.loop.invariant.opened

pub returns-in-Stopped-clause-jobs : goal.returns-in-Stopped-clause-jobs
returns-in-Stopped-clause-jobs g c = AllLed-jobs _ _ _ _ _ _ _ _ _ c.loop.invariant.opened

pub returns-clause-many : goal.returns-clause-many
returns-clause-many g c = AllLed-many _ _ _ _ _ _ _ _ _ c.loop.invariant.opened

pub returns-clause-jobs : goal.returns-clause-jobs
returns-clause-jobs g c = AllLed-jobs _ _ _ _ _ _ _ _ _ c.loop.invariant.opened
