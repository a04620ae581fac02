use Rattle.regroup_stream.proofs.files.FileFault.message.Goals as goal

pub returns-in-Unread : goal.returns-in-Unread
returns-in-Unread c = rw c.in-Unread.is c.failure_message.ensures

pub returns-in-Uncreated : goal.returns-in-Uncreated
returns-in-Uncreated c = rw c.in-Uncreated.is c.failure_message-in-Uncreated.ensures
