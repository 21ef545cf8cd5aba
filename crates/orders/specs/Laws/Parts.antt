-- A part of a report, by its own name. Rests on machine's Orders.
use Rattle.wide.specs.declared.Priced.{Priced}
use Rattle.records.specs.declared.Told.{Told}
use Rattle.store.specs.declared.Order.{Order}
use Rattle.machine.specs.Orders.{leaves_qty}
use Rattle.machine.specs.declared.Note.{Note}

abbrev pub told_of : Order → Priced → Note → Told
told_of o price n = record {
  leavesqty = leaves_qty o;
  execseq = o.state.execseq;
  fillprice = price.price;
  fixedtext = n.fixedtext;
  origin = n.origin;
  responseto = 0;
  source = price.source;
}
