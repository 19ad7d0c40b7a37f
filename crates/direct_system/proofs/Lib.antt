mod Running
mod Taking
