use Rattle.pg_receive.proofs.LayoutLemmas.{nothing_ends}
use Rattle.pg_receive.proofs.message.layout.body_end.Goals as goal

pub returns-in-BindComplete-clause-end : goal.returns-in-BindComplete-clause-end
returns-in-BindComplete-clause-end c = rw c.in-BindComplete.is (nothing_ends c.args.body.now)

pub returns-in-CloseComplete-clause-end : goal.returns-in-CloseComplete-clause-end
returns-in-CloseComplete-clause-end c = rw c.in-CloseComplete.is (nothing_ends c.args.body.now)

pub returns-in-CopyDone-clause-end : goal.returns-in-CopyDone-clause-end
returns-in-CopyDone-clause-end c = rw c.in-CopyDone.is (nothing_ends c.args.body.now)

pub returns-in-EmptyQueryResponse-clause-end : goal.returns-in-EmptyQueryResponse-clause-end
returns-in-EmptyQueryResponse-clause-end c = rw c.in-EmptyQueryResponse.is (nothing_ends c.args.body.now)

pub returns-in-NoData-clause-end : goal.returns-in-NoData-clause-end
returns-in-NoData-clause-end c = rw c.in-NoData.is (nothing_ends c.args.body.now)

pub returns-in-ParseComplete-clause-end : goal.returns-in-ParseComplete-clause-end
returns-in-ParseComplete-clause-end c = rw c.in-ParseComplete.is (nothing_ends c.args.body.now)

pub returns-in-PortalSuspended-clause-end : goal.returns-in-PortalSuspended-clause-end
returns-in-PortalSuspended-clause-end c = rw c.in-PortalSuspended.is (nothing_ends c.args.body.now)

pub returns-in-CommandComplete-clause-fault : goal.returns-in-CommandComplete-clause-fault
returns-in-CommandComplete-clause-fault c = rw c.in-CommandComplete.is c.tag_end.ensures.fault

pub returns-in-ErrorResponse-clause-fault : goal.returns-in-ErrorResponse-clause-fault
returns-in-ErrorResponse-clause-fault c = rw c.in-ErrorResponse.is c.fields_end.ensures.fault

pub returns-in-NoticeResponse-clause-fault : goal.returns-in-NoticeResponse-clause-fault
returns-in-NoticeResponse-clause-fault c = rw c.in-NoticeResponse.is c.fields_end-in-NoticeResponse.ensures.fault

pub returns-in-NotificationResponse-clause-end : goal.returns-in-NotificationResponse-clause-end
returns-in-NotificationResponse-clause-end c = rw c.in-NotificationResponse.is c.notification_end.ensures.end
